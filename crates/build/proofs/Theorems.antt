-- Theorems over the definitions of specs/. They stand here so that a must-fail edit of a definition is refused by them.
pub mod Answers
pub mod Refusals
