pub mod Stored
pub mod Sets
pub mod Conflicts
pub mod Places
pub mod Entries
pub mod Filling
pub mod Ranks
pub mod Meaning
