-- The vocabulary of all crates: lists and bytes, each idea once, with its laws. No word of the cartridge's.
pub mod Lists
pub mod Bytes
pub mod Tables
pub mod Counts
pub mod Listed
pub mod Rows
pub mod Refusals
pub mod Same
pub mod Options
pub mod Laws
