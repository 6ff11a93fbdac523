-- The accelerators in lent words.
pub mod Words
pub mod Code
pub mod Laws
