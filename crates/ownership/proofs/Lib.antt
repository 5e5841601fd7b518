pub mod Bodies
pub mod Effects
pub mod Fresh
pub mod Needed
pub mod Noted
pub mod Places
pub mod Steps
pub mod Turns
