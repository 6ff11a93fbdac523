pub mod Loops
pub mod Gathers
pub mod Housing
pub mod Bins
pub mod Same
