pub mod Branches
pub mod Judging
