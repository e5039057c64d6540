pub mod Pairs
pub mod Turns
