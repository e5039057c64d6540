pub mod Choice
pub mod Sums
pub mod Bits
pub mod Sets
pub mod Counts
pub mod Words
