-- Bytes, the listing call, its answer, and calls one after another.
pub mod Bytes
pub mod ReadBack
pub mod Beside
pub mod Calls
pub mod Standing
pub mod Answers
pub mod Once
pub mod Join
pub mod Paper
