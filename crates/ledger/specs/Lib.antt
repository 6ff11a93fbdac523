-- The canonical lines of a plan that stands in two arrays.
pub mod Held
pub mod Code
pub mod Laws
