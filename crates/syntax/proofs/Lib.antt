pub mod Numbers
pub mod Stored
pub mod Unique
pub mod Free
pub mod Lines
pub mod Writes
