pub mod Gathered
pub mod Holding
pub mod Steps
