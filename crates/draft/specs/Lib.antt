pub mod Calls
pub mod Stored
pub mod Model
pub mod Sealed
