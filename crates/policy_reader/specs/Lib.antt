-- What the contracts of the crate say; what is answered stands in policy_answers, the grammar in policy_grammar.
pub mod Bodies
pub mod Inner
pub mod Offsets
pub mod Readings
