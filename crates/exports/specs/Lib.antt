pub mod Loads
pub mod Builds
pub mod Runs
pub mod States
pub mod Images
pub mod Desk
pub mod Code
pub mod Laws
