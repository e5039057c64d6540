pub mod Found
pub mod Counting
pub mod Fits
