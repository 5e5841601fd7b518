pub mod Fails
pub mod Marks
pub mod Ranges
