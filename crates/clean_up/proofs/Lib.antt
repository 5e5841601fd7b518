pub mod CleanerSteps
pub mod LockTexts
pub mod Room
pub mod Table
