pub mod Tests
pub mod Spelling
pub mod Same
