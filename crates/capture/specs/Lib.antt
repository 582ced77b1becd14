-- What the contracts of the crate say.
pub mod Capture
pub mod Inner
