pub mod Ranges
pub mod PartBytes
pub mod Formed
pub mod LeastParts
pub mod Shapes
pub mod AlongTrees
pub mod Choices
pub mod WellFormed
pub mod Growths
pub mod Tables
pub mod LeastCosts
mod Examples
