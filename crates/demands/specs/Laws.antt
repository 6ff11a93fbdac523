-- The demands' values.
pub mod Demand1
pub mod Machine
pub mod Demand2
pub mod Tied
pub mod Pressed
pub mod Demand3
pub mod Lists
pub mod Smallest
pub mod Files
pub mod Bench
pub mod Collections
pub mod Requests
