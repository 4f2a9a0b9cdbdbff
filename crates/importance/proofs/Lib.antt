-- The laws on the numbers of events and their ranking.
pub mod Passing
pub mod Standing
pub mod Places
pub mod Turns
pub mod Answer
pub mod Outcome
pub mod Tells
pub mod OfTrees
