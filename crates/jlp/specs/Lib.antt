-- The JLP accelerators: their addresses, their arithmetic and CRC, and what writes, resets and reads do.
pub mod Window
pub mod Arith
pub mod Crc
pub mod Accelerators
pub mod Values
pub mod Laws
