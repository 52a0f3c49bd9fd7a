pub mod Ranges
pub mod Steps
