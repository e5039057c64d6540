pub mod Next
pub mod Work
