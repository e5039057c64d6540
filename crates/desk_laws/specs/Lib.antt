pub mod Readable
pub mod Charged
