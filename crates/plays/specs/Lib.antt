-- The plain cartridge and what a load leaves; the relation of the two; demand 3 and what follows from it.
pub mod Plain
pub mod Loaded
pub mod Laws
