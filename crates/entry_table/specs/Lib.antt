pub mod Ids
pub mod Keyed
pub mod Results
pub mod Work
pub mod Keying
pub mod AreKept
pub mod Tables
pub mod Restoring
