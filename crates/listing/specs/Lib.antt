-- The bytes of a cut in a room, what a listing call answers, what its parts answer, and calls one after another.
pub mod Bytes
pub mod Answers
pub mod Calls
pub mod Joined
pub mod Results
