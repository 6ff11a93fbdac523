-- Theorems over the definitions.
pub mod LoadImage
pub mod Overlay
pub mod Rising
