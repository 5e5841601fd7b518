pub mod Servers
pub mod Serves
pub mod Guarded
pub mod Merged
