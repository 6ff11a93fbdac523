-- Theorems over the definitions.
pub mod Runs
