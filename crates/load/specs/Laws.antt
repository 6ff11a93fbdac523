-- Theorems over the definitions.
pub mod Refusals
pub mod Stated
pub mod Readable
pub mod Answers
