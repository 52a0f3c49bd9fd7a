pub mod Finding
pub mod Filling
pub mod Meaning
pub mod Writing
pub mod Walks
pub mod Roots
