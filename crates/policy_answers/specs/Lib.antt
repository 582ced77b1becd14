-- What the contracts of the crate say: the answers, the bytes of their parts, and what is seen of them in a string.
pub mod Types
pub mod Answers
pub mod Parts
pub mod Seen
