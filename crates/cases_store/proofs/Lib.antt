pub mod Commits
pub mod Undamaged
