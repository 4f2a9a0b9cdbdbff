-- What a lent cut diagram tells of the cuts that miss a set: by recursion over its nodes, by the passes over its table, and as the two calls answer it.
pub mod Families
pub mod Recursion
pub mod Nodes
pub mod Marking
pub mod Counting
pub mod FirstCut
pub mod Tallies
pub mod Answers
