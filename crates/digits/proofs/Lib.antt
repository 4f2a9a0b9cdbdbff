-- The laws on digits.
pub mod Value
pub mod Steps
