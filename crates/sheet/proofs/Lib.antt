pub mod Loops
pub mod Same
