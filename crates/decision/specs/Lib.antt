-- What the contracts of the crate say, and what the rules mean.
pub mod Lists
pub mod Answers
pub mod Inner
pub mod Meaning
