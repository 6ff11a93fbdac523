pub mod Lines
pub mod Checks
pub mod Steps
pub mod Runs
pub mod Answers
pub mod Same
