pub mod Bytes
pub mod Cuts
pub mod Model
pub mod Kinds
pub mod Lines
pub mod Iterating
