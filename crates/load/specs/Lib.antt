-- The load of an image: its refusals, its answer, and the RAM afterwards.
pub mod Load
pub mod Leaves
pub mod Code
pub mod Laws
