-- A publisher's label file as a metadata block.
pub mod Label
pub mod Laws
