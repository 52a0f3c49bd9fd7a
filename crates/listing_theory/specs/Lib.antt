pub mod Listings
pub mod Ways
pub mod Paths
pub mod Claims
