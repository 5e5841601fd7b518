pub mod Keeping
pub mod Meant
pub mod Views
