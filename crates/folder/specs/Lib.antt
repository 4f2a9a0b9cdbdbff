-- A folder of trees: its trees' bytes, which of them pass, their totals by size, and what the call answers.
pub mod Parts
pub mod Passing
pub mod Totals
pub mod Gathered
pub mod Contract
pub mod Steps
