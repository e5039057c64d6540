pub mod Sums
pub mod Masks
pub mod Words
