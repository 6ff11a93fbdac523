-- Back to BIN and CFG: which images some BIN and CFG build, and the one that is written for them.
pub mod Content
pub mod Source
pub mod Behind
pub mod Unbuild
pub mod Code
pub mod Laws
