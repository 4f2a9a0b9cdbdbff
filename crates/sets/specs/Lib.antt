-- A set of events in words, what its functions answer, its bytes, and what stands beside it.
pub mod Words
pub mod Bytes
pub mod Beside
