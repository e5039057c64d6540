pub mod Fits
pub mod Gathering
pub mod Tied
