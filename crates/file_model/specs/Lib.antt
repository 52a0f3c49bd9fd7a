pub mod Spelled
pub mod Files
pub mod Faults
