pub mod BigEndian
pub mod Padding
pub mod Hashing
pub mod Parts
