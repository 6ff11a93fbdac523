-- Theorems over the definitions.
pub mod Shown
pub mod Texts
pub mod Ends
