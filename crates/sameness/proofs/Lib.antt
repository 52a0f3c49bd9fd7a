pub mod Renaming
pub mod Equivalence
pub mod Scoring
