pub mod Literal
pub mod Lits
