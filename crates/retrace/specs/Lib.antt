-- The plan behind an image, in two arrays.
pub mod Code
pub mod Laws
