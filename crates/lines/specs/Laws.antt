-- Theorems over the definitions.
pub mod Lines
pub mod Kinds
