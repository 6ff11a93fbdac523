-- A list of bus accesses as text, and what running it answers (02, W-214).
pub mod Line
pub mod Accesses
pub mod Runs
pub mod Code
pub mod Laws
