pub mod Conceding
pub mod Numbers
