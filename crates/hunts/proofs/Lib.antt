pub mod Scanning
pub mod Draining
