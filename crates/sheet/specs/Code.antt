-- What functions promise.
pub mod Sheets
