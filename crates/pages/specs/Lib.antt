-- What the contracts of the crate say, and what the walk means.
pub mod Entry
pub mod Memory
pub mod Tables
pub mod Rules
pub mod Inner
pub mod Meaning
