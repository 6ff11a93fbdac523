-- Theorems over the definitions.
pub mod Whole
pub mod Says
pub mod Pages
pub mod Shown
pub mod Stays
pub mod Leaves
pub mod Last
pub mod Ram
pub mod Examples
