-- An image's header, as it is written and as it is read, and what its flags say.
pub mod Header
pub mod Flags
pub mod Laws
