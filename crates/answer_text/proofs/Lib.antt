-- The laws of the text of the answer.
pub mod Lines
pub mod Written
pub mod Room
