-- Theorems over the definitions.
pub mod Counts
pub mod Star
