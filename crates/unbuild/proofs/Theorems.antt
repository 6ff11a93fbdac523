-- Theorems over the definitions of specs/. They stand here so that a must-fail edit of a definition is refused by them.
pub mod Back
pub mod Exactly
pub mod Loaded
pub mod Refusals
pub mod Same
pub mod Unbuilt
