-- The laws of the stages, and the theorems.
mod Order
mod Conditions
mod Finding
mod Deciding
mod Whole
pub mod Meaning
pub mod Demand1
pub mod Permitting
mod Given
mod Last
pub mod Demand2
pub mod Bodies
pub mod Ignored
