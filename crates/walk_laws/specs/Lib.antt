pub mod Leaves
pub mod Scan
pub mod Sound
pub mod Order
pub mod Right
pub mod Hard
