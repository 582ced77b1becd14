-- The laws of the crate; other crates cite those that are public.
-- Tests, and values of lists by their numbers.
mod Members
-- What the rules say.
pub mod Conditions
-- Loops over the lists of a file and the elements of a list.
mod Walking
mod Hashing
mod Digests
mod Naming
mod Judging
mod ListAnswers
mod Lowest
-- What rules 27 to 29 say.
pub mod Readings
pub mod Permission
pub mod FileRules
