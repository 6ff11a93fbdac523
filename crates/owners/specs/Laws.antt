-- Theorems over the definitions.
pub mod Least
pub mod Owners
