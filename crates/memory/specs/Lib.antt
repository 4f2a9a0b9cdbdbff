-- What is lent to an analysis, and what an analysis says and leaves there.
pub mod Memory
pub mod Analysis
pub mod Outcome
