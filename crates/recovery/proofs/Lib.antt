pub mod Laws
pub mod Notes
pub mod Loops
pub mod Answers
pub mod Same
