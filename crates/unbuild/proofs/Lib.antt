pub mod Sources
pub mod Loads
pub mod Same
pub mod Theorems
