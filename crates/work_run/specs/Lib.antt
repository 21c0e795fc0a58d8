pub mod Chosen
pub mod Working
pub mod Ends
pub mod Opened
