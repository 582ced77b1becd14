-- The table of cases, and the inputs of its cases.
pub mod Heaps
pub mod Modules
pub mod Windows
pub mod Policies
pub mod Table
