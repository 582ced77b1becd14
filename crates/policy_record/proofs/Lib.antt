-- The laws of the crate; other crates cite those that are public.
pub mod Conditions
pub mod RecordAnswers
