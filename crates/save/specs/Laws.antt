-- Theorems over the definitions.
pub mod Chosen
pub mod Within
