-- The three checksums: what they are, the tables that give them eight bytes at a time, and that both ways agree.
pub mod Crc
pub mod Tables
pub mod Cases
pub mod Laws
