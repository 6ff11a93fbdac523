-- Theorems over the definitions.
pub mod Named
pub mod Pressed
pub mod Printed
pub mod Two
pub mod Answers
pub mod Written
