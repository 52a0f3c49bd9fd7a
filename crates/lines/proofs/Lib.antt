pub mod Runs
pub mod Cutting
pub mod Nexts
pub mod Kinding
pub mod Putting
pub mod Mapping
