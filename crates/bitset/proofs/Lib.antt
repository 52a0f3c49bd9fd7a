pub mod Digits
pub mod Warshall
pub mod Joining
pub mod Reaching
pub mod Passing
