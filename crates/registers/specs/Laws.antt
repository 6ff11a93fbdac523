-- Theorems over the definitions.
pub mod Words
