-- What the contracts of the crate say.
pub mod Rsa
pub mod Words
pub mod Montgomery
pub mod Inner
pub mod Meaning
