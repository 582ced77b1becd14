-- The laws of captures.
mod Ranges
pub mod Conditions
