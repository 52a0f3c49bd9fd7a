pub mod Calls
pub mod Readings
