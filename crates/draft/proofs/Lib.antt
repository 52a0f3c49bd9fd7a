pub mod Accepting
pub mod Causes
pub mod Growing
pub mod Rules
pub mod Sealing
pub mod Tables
