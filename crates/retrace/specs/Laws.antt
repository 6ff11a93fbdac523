-- Theorems over the definitions.
pub mod Behind
