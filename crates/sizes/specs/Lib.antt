-- How many sets of each size a cut diagram denotes, and what the call that counts them answers.
pub mod Recursion
pub mod Reach
pub mod Passes
pub mod Counted
pub mod Examples
