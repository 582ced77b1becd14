-- Tests of lists, rules in the order they are tried, what they mean, and their numbers.
pub mod Tests
pub mod Rules
pub mod Meaning
pub mod Refusal
