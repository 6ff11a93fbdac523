pub mod Rows
pub mod Fills
pub mod Same
