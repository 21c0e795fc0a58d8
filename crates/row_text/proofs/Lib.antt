pub mod Spellings
pub mod Appending
pub mod Lines
