-- What private functions promise.
pub mod Answers
