pub mod Entry
pub mod Laying
pub mod Fills
