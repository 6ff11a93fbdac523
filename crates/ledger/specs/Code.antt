-- What functions promise.
pub mod Bytes
pub mod Lists
