-- Theorems over the definitions.
pub mod Refusals
pub mod Examples
