-- Page flips and bankswitches.
pub mod Flips
pub mod Banks
pub mod Laws
