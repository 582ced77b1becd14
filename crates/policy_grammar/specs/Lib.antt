-- The grammar of policy files, their layout, and what is read by it.
pub mod Grammar
pub mod Sizes
pub mod Format
pub mod Layout
pub mod Parser
pub mod Decode
pub mod Fault
