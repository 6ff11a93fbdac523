-- Theorems over the definitions.
pub mod Layout
pub mod Places
pub mod Uses
pub mod Tables
pub mod Shows
pub mod Examples
pub mod Cells
pub mod Survey
pub mod Draw
pub mod Bounds
