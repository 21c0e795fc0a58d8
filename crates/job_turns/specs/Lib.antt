pub mod Jobs
pub mod Steps
pub mod Turns
pub mod Ends
