-- A written CFG on a sheet.
pub mod Code
pub mod Laws
