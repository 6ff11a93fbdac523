-- Texts: their bytes, lines, spelling and hex digits, each idea once, for whoever reads or writes one.
pub mod Bytes
pub mod Lines
pub mod Spelling
pub mod Laws
