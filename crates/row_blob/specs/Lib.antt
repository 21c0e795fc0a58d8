pub mod Spelling
pub mod Kept
pub mod Place
pub mod Reading
