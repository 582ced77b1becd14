-- The laws that other crates cite.
pub mod Sizes
pub mod Elements
pub mod Meaning
pub mod Bodies
