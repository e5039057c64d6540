pub mod Exits
pub mod Ends
pub mod Rest
