-- Theorems over the definitions of specs/. They stand here so that a must-fail edit of a definition is refused by them.
pub mod Covered
pub mod Examples
pub mod Fewest
pub mod Pages
pub mod Planned
pub mod Tables
pub mod Valid
