-- The laws on the two numbers.
pub mod Pass
pub mod Answer
pub mod Outcome
