pub mod Cells
pub mod Division
pub mod Meaning
pub mod Table
