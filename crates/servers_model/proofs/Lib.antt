mod Added
mod Below
mod Beside
pub mod Changed
mod Guarding
mod Merging
mod Raised
mod Turn
