-- Salvage of a damaged image: what is kept, left out and refused, and that what is written loads.
pub mod Salvage
pub mod Card
pub mod Code
pub mod Laws
