-- The payload of a tables block, as it is written and as it is read, and refusal 10.
pub mod Tables
pub mod Laws
