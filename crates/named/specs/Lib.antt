pub mod Reweigh
