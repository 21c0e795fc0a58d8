pub mod FileLemmas
pub mod Ids
pub mod Looking
pub mod ComputedTrees
pub mod Examples
