pub mod Tied
pub mod TiedC
pub mod Promises
