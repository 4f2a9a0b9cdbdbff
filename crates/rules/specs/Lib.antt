pub mod Answers
pub mod Format
pub mod Longest
pub mod States
pub mod Rules
