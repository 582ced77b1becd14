-- What the contracts of the crate say, what the rules mean, and which bytes never matter.
pub mod Heap
pub mod Meaning
pub mod Bodies
pub mod Inner
