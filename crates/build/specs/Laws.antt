-- Theorems over the definitions.
pub mod Image
pub mod Press
pub mod Label
pub mod Outcome
