pub mod Server
pub mod Visits
pub mod Answers
