-- The desk's lookup of a text by its tag and its number.
pub mod Lookup
pub mod Shown
pub mod Code
pub mod Laws
