-- What private functions promise.
pub mod Passes
