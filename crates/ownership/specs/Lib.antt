pub mod Names
pub mod Effects
pub mod Lists
pub mod Tables
pub mod Turns
pub mod Frames
pub mod Laws
