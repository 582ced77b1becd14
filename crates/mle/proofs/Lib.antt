-- The laws that other crates cite.
pub mod Meaning
pub mod Pages
