pub mod Chains
pub mod Counts
