pub mod Claims
pub mod Decided
pub mod Closed
