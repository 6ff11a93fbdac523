-- What functions promise.
pub mod Answers
