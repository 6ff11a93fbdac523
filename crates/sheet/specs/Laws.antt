-- Theorems over the definitions.
pub mod Sheets
