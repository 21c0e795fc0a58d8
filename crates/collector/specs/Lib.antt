pub mod Candidates
pub mod Ratio
pub mod Standing
pub mod Victims
