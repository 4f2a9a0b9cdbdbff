-- What `decides` answers, what its parts find, the same computed, and examples.
pub mod Answers
pub mod Searching
pub mod Deciding
pub mod Examples
