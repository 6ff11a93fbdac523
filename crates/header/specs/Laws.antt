-- Theorems over the definitions.
pub mod Header
pub mod Flags
pub mod Refusals
pub mod Examples
