-- Theorems over the definitions.
pub mod Forms
pub mod Carried
pub mod Packets
pub mod Walk
pub mod Refusals
pub mod Cuts
pub mod Sizes
pub mod ReadBack
pub mod Smallest
pub mod Examples
