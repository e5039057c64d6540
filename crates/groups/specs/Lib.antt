pub mod Foresees
