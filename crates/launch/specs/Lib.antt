-- What the contracts of the crate say, when a launch is permitted, demands 1 and 2, and which bytes never matter.
pub mod Rules
pub mod Answer
pub mod Inner
pub mod Refused
pub mod Permitted
pub mod Meaning
pub mod Demand1
pub mod Demand2
pub mod Bodies
pub mod Ignored
