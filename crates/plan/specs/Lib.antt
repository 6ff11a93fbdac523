-- Plans, what an image of one is, the plan of some lines, and that their layout is the plan's.
pub mod Plan
pub mod Valid
pub mod Image
pub mod Fewest
pub mod OfLines
pub mod Planned
pub mod Laws
