-- Demand 3, which the contracts by number add up to, and what the contracts of inner functions say.
pub mod Inner
pub mod Demand3
