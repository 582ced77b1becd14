-- The laws that the proofs cite.
pub mod Values
pub mod Loops
pub mod Compare
pub mod Bytes
pub mod Modulo
pub mod Steps
pub mod Products
pub mod Strings
pub mod Numerals
pub mod Digest
pub mod Encoding
pub mod Matches
pub mod Parts
pub mod Verified
