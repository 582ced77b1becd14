-- Parts by number, and demand 3.
mod Walked
mod ByNumber
pub mod Demand3
