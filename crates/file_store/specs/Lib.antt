pub mod Fails
pub mod Faults
pub mod Store
pub mod View
