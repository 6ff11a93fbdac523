-- The plain writer: the image of a content, its refusals, and what it leaves in the lent buffer.
pub mod Chosen
pub mod Writing
pub mod Code
pub mod Laws
