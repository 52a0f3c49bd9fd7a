pub mod Elements
pub mod Growing
pub mod Splitting
pub mod Gathering
pub mod Leading
pub mod Closing
