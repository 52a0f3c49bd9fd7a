pub mod Bounds
pub mod Writing
pub mod Listing
pub mod Reading
