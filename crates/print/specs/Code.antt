-- What functions promise.
pub mod Texts
