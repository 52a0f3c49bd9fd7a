pub mod Syntax
pub mod Model
pub mod Reading
pub mod Writing
pub mod Free
