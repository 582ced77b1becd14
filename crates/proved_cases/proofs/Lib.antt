-- The proof of the table.
pub mod Windows
pub mod Hold
