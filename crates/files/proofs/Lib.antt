pub mod LineForms
pub mod TextLines
pub mod Written
pub mod Faults
