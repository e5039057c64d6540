pub mod Clean
pub mod Standing
pub mod Framed
pub mod HardRows
pub mod StepTable
