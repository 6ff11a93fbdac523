-- Theorems over the definitions.
pub mod Window
pub mod Values
pub mod Products
pub mod Quotients
pub mod Crc
pub mod Accelerators
pub mod Examples
