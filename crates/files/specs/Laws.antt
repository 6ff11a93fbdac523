-- Theorems over the definitions.
pub mod Rule
pub mod Examples
