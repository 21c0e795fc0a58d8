pub mod Calls
pub mod Building
pub mod Changes
pub mod Nearest
pub mod Histories
pub mod Images
pub mod Numbers
