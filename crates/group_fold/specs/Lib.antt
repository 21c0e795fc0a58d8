pub mod Finish
pub mod Numbers
pub mod Table
