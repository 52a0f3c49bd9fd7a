pub mod Sames
pub mod Claims
