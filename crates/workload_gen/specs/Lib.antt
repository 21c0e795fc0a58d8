pub mod Draws
pub mod Programs
pub mod Script
