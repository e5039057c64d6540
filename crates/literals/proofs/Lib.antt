pub mod Signed
pub mod Opposites
pub mod OneBit
pub mod TwoMasks
pub mod OneLiteral
pub mod Examples
pub mod Offers
