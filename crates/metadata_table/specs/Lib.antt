pub mod Places
pub mod Ranges
pub mod RootReader
pub mod Roots
pub mod Search
pub mod Table
pub use Rattle.cell_key.specs.Keys
