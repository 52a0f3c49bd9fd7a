pub mod Stored
pub mod Model
pub mod Reading
pub mod Writing
pub mod Faults
