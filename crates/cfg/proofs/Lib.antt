pub mod Scans
pub mod Notes
pub mod Answers
pub mod Same
pub mod Theorems
