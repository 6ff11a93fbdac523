-- Theorems over the definitions.
pub mod Refusals
pub mod Shapes
pub mod Rules
pub mod Shares
pub mod Chapters
