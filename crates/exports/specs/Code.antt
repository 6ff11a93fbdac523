-- What private functions promise.
pub mod States
