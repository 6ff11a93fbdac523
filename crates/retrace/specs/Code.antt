-- What functions promise.
pub mod Shown
pub mod Named
