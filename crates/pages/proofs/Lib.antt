-- The laws that other crates cite.
pub mod Tests
pub mod Bits
pub mod Found
pub mod Joined
pub mod Conditions
pub mod Kept
pub mod Regions
pub mod Tried
pub mod Answer
pub mod Invariants
pub mod Stages
pub mod Holding
pub mod Permits
pub mod Meaning
