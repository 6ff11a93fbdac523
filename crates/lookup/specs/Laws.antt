-- Theorems over the definitions.
pub mod Texts
pub mod Lookup
pub mod Shown
pub mod Found
