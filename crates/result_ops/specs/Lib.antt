pub mod Bounds
pub mod Fitting
pub mod Steps
