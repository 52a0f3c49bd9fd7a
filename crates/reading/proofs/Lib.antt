pub mod Sealed
pub mod Handed
pub mod Scoring
pub mod Words
pub mod Stepping
