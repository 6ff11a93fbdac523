-- The layout's definitions, then its laws.
pub mod Layout
pub mod Drawing
pub mod Code
pub mod Laws
