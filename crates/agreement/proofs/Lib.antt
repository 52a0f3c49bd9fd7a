pub mod Fixing
pub mod Working
pub mod Agreeing
pub mod Playing
