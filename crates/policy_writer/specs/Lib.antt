-- What numbers and bodies describe, what is answered, and what the writer promises.
pub mod Descriptions
pub mod Decode
pub mod Types
pub mod Inner
pub mod Answers
pub mod Writing
