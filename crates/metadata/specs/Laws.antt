-- Theorems over the definitions.
pub mod Walk
pub mod ReadBack
pub mod Texts
pub mod Nth
pub mod Behind
pub mod Examples
