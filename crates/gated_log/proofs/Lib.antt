pub mod Blocks
pub mod Crash
pub mod Parse
pub mod Places
