-- The plan behind an image, and that it builds every image that some plan builds.
pub mod Behind
pub mod Builds
pub mod Laws
