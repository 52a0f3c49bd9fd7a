pub mod Next
pub mod Parses
pub mod Grammars
pub mod Examples
