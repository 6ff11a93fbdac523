-- What private functions promise.
pub mod Takers
