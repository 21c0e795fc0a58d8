pub mod OpenJobs
pub mod Chosen
pub mod Chains
pub mod Reading
pub mod Losses
pub mod Ending
pub mod Later
