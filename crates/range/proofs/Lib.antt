-- The laws that other crates cite.
pub mod Ranges
pub mod EachRange
