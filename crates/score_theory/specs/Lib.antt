pub mod Totals
pub mod Scores
pub mod Weights
