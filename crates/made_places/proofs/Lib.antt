mod Joined
mod Shapes
pub mod Formed
mod Covered
mod MarkLemmas
pub mod MarkedWays
pub mod PickLemmas
pub mod Found
pub mod Sizes
mod OwnTrees
mod Examples
