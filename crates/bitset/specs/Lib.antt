pub mod Bits
pub mod Cells
pub mod Relations
pub mod Steps
