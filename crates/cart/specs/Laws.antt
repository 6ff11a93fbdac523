-- Theorems over the definitions.
pub mod Reads
pub mod Writes
pub mod ReadSteps
pub mod WriteSteps
pub mod Banks
pub mod Run
