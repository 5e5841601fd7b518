mod Grown
mod Kept
mod Mixed
