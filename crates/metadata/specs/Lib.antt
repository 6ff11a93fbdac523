-- Program metadata: the sub-records of a payload, texts by tag, and the release date.
pub mod Records
pub mod Texts
pub mod Dates
pub mod Laws
