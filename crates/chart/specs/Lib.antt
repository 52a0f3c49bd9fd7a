pub mod Cells
pub mod Chart
pub mod Columns
