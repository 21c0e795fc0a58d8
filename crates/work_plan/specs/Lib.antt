pub mod Fitting
pub mod Planning
