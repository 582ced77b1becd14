-- The laws of the crate; other crates cite those that are public.
-- What each function answers, by the tests that it makes.
mod ReadExtents
mod ElementTests
mod Bodies
mod ListTests
mod Rows
mod FileTests
mod ElementNumbers
-- Values in a row.
mod Cuts
pub mod Standing
-- Where the parts of a reading stand, and what is seen there.
pub mod Places
pub mod Seen
mod Offsets
pub mod Walk
pub mod Readings
mod ListNumbers
