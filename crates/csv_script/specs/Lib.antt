pub mod Blocks
pub mod Cells
pub mod Reading
pub mod Records
pub mod Refusals
