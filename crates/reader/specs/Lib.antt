pub mod Ends
pub mod Rest
