pub mod Filled
pub mod Tails
pub mod Inputs
pub mod Filling
