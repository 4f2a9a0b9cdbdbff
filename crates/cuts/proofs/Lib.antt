-- The laws of marking, of one node's cuts, of the way up, and what they come to.
pub mod Node
pub mod Marks
pub mod Up
pub mod Promises
