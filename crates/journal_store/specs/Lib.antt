pub mod Checkpoints
pub mod Journals
pub mod Making
pub mod Readings
pub mod Refusals
