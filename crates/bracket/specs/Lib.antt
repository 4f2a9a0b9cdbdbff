-- What the bracket answers, and what its one pass over the nodes stores.
pub mod Bracketed
pub mod Pass
pub mod Answers
