pub mod Leaves
pub mod Sums
