-- Theorems over the definitions.
pub mod Flips
pub mod Banks
pub mod Examples
