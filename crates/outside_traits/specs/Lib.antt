pub mod Bytes
pub mod Calls
pub mod Counts
pub mod Removals
pub mod Runs
pub mod View
