pub mod Answering
pub mod Lengths
