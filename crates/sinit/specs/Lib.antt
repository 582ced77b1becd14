-- What the contracts of the crate say, and what that means.
pub mod Module
pub mod Rules
pub mod Meaning
pub mod Editions
