pub mod Cuts
pub mod Bytes
pub mod Intervals
pub mod Examples
