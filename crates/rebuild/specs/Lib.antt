-- Whether a plan builds tables and named words.
pub mod Fits
pub mod Code
pub mod Laws
