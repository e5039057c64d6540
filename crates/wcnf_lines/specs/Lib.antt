pub mod Keys
pub mod Lengths
