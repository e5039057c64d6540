pub mod Bad
pub mod Lasts
pub mod Regained
