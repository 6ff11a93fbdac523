-- What private functions promise.
pub mod Shapes
pub mod Clashes
pub mod Chapters
