-- The laws of taking two diagrams apart, and of the recursion over both.
pub mod Apart
pub mod Recursion
