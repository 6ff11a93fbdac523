-- Theorems over the definitions.
pub mod Escaped
pub mod Examples
