-- Theorems over the definitions.
pub mod Drawn
pub mod Names
pub mod Same
pub mod Retraced
