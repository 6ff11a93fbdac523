-- Theorems over the definitions.
pub mod Lent
pub mod Rows
pub mod Alike
pub mod Changes
pub mod Kept
pub mod Registers
pub mod Examples
