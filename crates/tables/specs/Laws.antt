-- Theorems over the definitions.
pub mod Tables
pub mod Refusals
pub mod Examples
