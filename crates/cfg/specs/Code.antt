-- What private functions promise.
pub mod Steps
