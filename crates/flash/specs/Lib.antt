-- Saved games: what a command leaves of the lent memories; the registers; the plain flash, and how a lent one shows it.
pub mod Flash
pub mod Registers
pub mod Plain
pub mod Shown
pub mod Laws
