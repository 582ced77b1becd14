-- What the contracts of the crate say.
pub mod Range
pub mod Pairs
