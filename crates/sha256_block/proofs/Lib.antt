pub mod Bitwise
pub mod Sums
pub mod BlockWords
pub mod Schedule
pub mod Blocks
