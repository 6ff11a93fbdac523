-- What functions promise.
pub mod Retraced
