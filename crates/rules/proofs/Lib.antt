pub mod Examples
pub mod GroupExamples
pub mod Judging
pub mod Admissible
pub mod Mistakes
