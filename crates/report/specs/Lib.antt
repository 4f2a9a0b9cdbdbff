-- What a report call answers, what its parts say, and calls one after another.
pub mod Answers
pub mod Inner
pub mod Joined
pub mod Results
