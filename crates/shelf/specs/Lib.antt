-- A text as a shelf label shows it.
pub mod Escaped
pub mod Laws
