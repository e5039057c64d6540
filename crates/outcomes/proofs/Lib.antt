pub mod Searching
pub mod Heads
pub mod Counting
