pub mod Lowest
pub mod Below
