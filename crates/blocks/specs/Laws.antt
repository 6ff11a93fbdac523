-- Theorems over the definitions.
pub mod Frames
pub mod Images
pub mod Payloads
pub mod ReadBack
