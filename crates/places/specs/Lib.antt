-- The three numberings, and every number of 01.
pub mod Places
pub mod Limits
