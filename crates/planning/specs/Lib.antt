pub mod Appending
pub mod Collecting
pub mod Fetching
pub mod Making
pub mod Opening
pub mod Recorded
pub mod Rows
pub mod Running
