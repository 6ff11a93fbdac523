-- Theorems over the definitions of specs/. They stand here so that a must-fail edit of a definition is refused by them.
pub mod Alike
pub mod Behind
pub mod Chapter
pub mod Examples
pub mod Exactly
pub mod Fewer
