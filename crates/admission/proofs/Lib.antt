pub mod Behind
pub mod Recorded
