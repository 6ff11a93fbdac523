-- Theorems over the definitions.
pub mod Runs
pub mod Lines
pub mod Judged
pub mod Some
pub mod Same
pub mod Bin
