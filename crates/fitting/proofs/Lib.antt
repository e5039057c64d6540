pub mod Judged
pub mod Namings
