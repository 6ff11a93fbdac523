-- What private functions promise.
pub mod Blocks
