-- A tree in memory, and what building its gates answers.
pub mod Memory
pub mod Finishing
