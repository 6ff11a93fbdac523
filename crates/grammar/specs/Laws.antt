-- Theorems over the definitions.
pub mod Examples
pub mod Grammar
pub mod Print
