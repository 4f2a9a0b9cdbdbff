-- What a root reaches, and what the way up to its cuts promises.
pub mod Reach
pub mod Cutting
