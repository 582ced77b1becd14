-- What the contracts of the crate say, and what the rules mean.
pub mod Record
pub mod Answers
pub mod Meaning
