-- What private functions promise.
pub mod Survey
pub mod Entries
pub mod Pour
