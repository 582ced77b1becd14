-- The layout and the grammar agree, and a fault that is read is the first.
pub mod Formats
pub mod Faults
pub mod Soundness
pub mod Decoding
pub mod Heads
