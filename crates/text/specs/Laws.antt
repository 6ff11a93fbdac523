-- Theorems over the definitions.
pub mod Bytes
pub mod Lines
pub mod Spelling
