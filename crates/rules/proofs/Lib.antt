pub mod Tests
pub mod Lists
pub mod Checked
pub mod Clashes
pub mod Covers
pub mod Parts
pub mod Same
