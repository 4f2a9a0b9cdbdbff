pub mod Parts
pub mod Passing
pub mod Totals
pub mod Counting
pub mod Going
pub mod Outcome
pub mod Once
