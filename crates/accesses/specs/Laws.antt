-- Theorems over the definitions.
pub mod Accesses
pub mod Runs
pub mod Refusals
pub mod Texts
pub mod Examples
