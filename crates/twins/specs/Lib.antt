-- The distinct inputs of a gate in memory.
pub mod Distinct
