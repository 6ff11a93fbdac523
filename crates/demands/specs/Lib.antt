-- What an auditor opens first: the three demands, what one access does to the machine, that images have the fewest bytes, what the requests
-- promise, and the bench cases. Each is a record of statements here, with one value in Laws.
pub mod Pressing
pub mod Demand1
pub mod Machine
pub mod Demand2
pub mod Demand3
pub mod Smallest
pub mod Requests
pub mod Bench
pub mod Laws
