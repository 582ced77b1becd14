-- What the contracts of the crate say.
pub mod Unread
