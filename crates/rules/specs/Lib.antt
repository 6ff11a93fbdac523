-- The rules' definitions, then their laws.
pub mod Chapters
pub mod Rules
pub mod Accepted
pub mod Code
pub mod Laws
