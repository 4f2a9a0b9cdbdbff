-- The laws of the report call.
pub mod Run
pub mod Family
pub mod Left
pub mod Answers
pub mod Once
pub mod Join
