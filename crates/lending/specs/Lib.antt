-- What a program lends to a load.
pub mod Lending
