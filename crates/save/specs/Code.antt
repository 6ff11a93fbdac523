-- What private functions promise.
pub mod Writing
