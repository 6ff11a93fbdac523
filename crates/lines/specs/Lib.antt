-- What a line names, its words of the BIN, its kind, and what its type holds.
pub mod Lines
pub mod Bin
pub mod Kinds
pub mod Typed
pub mod Laws
