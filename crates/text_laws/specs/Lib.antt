pub mod Keys
pub mod Pieces
pub mod Lengths
pub mod Ends
pub mod Lines
