-- The canonical lines of a plan and their BIN, and that they build every image that some BIN and lines build.
pub mod Canonical
pub mod Bin
pub mod Made
pub mod Laws
