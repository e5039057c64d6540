pub mod Chief
pub mod Either
pub mod Answers
