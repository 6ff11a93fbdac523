pub mod ByForm
pub mod Stored
pub mod Loops
pub mod Chosen
pub mod Packed
pub mod Written
pub mod Same
