pub mod Pieces
pub mod Shown
pub mod Written
