pub mod Fronts
pub mod Laid
pub mod Loading
