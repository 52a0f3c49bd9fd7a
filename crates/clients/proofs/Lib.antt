pub mod Calls
pub mod Conditions
pub mod Comparisons
pub mod Putting
pub mod Answering
