-- Theorems over the definitions.
pub mod Label
