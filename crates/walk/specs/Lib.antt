pub mod Buffers
pub mod Counts
pub mod Outputs
pub mod Sessions
pub mod Verdicts
