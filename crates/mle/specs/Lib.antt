-- What the contracts of the crate say, and what the rules mean.
pub mod Image
pub mod Header
pub mod Meaning
