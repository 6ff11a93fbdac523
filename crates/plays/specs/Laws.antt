-- Theorems over the definitions.
pub mod Shown
pub mod Held
pub mod Tabled
