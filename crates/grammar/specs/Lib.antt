pub mod Words
pub mod Grammar
pub mod Print
pub mod Code
pub mod Laws
