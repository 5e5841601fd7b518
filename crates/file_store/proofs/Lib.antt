mod Kept
mod Seen
mod Opened
