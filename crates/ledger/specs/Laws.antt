-- Theorems over the definitions.
pub mod Held
pub mod Lists
