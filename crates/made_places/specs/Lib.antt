pub mod Formed
pub mod Marks
pub mod Picking
pub mod Standing
pub mod Examples
