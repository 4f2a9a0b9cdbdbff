-- What the comparisons answer.
pub mod Answers
