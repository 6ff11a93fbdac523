pub mod Laws
pub mod Loops
pub mod Same
pub mod Theorems
