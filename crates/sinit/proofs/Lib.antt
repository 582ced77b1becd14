-- The laws that other crates cite, and what the proofs of the functions share.
pub mod Conditions
pub mod Meaning
mod Below
mod Editions
