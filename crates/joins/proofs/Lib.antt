-- The laws of the recursion.
pub mod Recursion
