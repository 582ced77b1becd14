-- The laws that other crates cite.
pub mod Rules
pub mod Tests
pub mod Filter
pub mod Meaning
pub mod Answers
pub mod Refusals
