-- What private functions promise.
pub mod Tidy
