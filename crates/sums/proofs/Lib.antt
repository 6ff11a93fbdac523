-- Laws that the loops keep, and that each promise allows one answer.
pub mod Laws
pub mod Same
