-- Theorems over the definitions.
pub mod Examples
pub mod Crc
pub mod Tables
