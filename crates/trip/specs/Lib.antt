-- Written, then loaded: what comes back of an image that is made of a header, tables and blocks.
pub mod Trip
pub mod Smallest
pub mod Laws
