pub mod Turns
pub mod Rest
