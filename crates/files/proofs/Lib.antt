pub mod Named
pub mod Parts
pub mod Verdicts
pub mod Same
