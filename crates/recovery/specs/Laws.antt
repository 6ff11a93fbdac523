-- Theorems over the definitions.
pub mod Kept
pub mod Closed
pub mod Salvage
pub mod Refusals
pub mod Reasons
pub mod Card
pub mod Answers
