pub mod Asked
pub mod Written
pub mod Calls
