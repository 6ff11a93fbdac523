pub mod Forms
pub mod Smallest
pub mod Cuts
pub mod Hunk
pub mod Code
pub mod Laws
