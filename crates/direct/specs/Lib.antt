-- The short ways to the RAM.
pub mod Direct
