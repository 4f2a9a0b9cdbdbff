-- The laws of the store, of building over it, and of the memo, for this crate's proofs and its callers'.
pub mod Slots
pub mod Denotes
pub mod Search
pub mod Adding
pub mod Building
pub mod Memory
pub mod Zeros
pub mod Counting
