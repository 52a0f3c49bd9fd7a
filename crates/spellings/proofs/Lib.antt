pub mod Gathering
pub mod Words
pub mod Written
pub mod Items
