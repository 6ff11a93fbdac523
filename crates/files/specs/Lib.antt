-- Names of files, what a read's answer means, what may be replaced, and what stops a program.
pub mod Counts
pub mod Digits
pub mod Names
pub mod Reads
pub mod Rule
pub mod Stops
pub mod Laws
