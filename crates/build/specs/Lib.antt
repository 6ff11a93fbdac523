pub mod Building
pub mod Code
pub mod Laws
