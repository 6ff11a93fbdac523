-- What each return of the code decides, and that each promise allows one answer.
pub mod Laws
pub mod Same
