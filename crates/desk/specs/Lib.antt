pub mod Front
pub mod Lay
