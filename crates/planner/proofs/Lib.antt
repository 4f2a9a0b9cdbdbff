-- The laws of the planner: what is safe, by the cuts that remain; the checker's answer; the plan, and how it is taken.
pub mod Reasons
pub mod Safety
pub mod Checking
pub mod Planning
pub mod Taking
pub mod Right
