pub mod Copies
pub mod Messages
pub mod Pages
pub mod Replies
pub mod Shown
pub mod Stamps
pub mod Wires
