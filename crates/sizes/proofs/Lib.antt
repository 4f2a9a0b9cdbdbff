-- The laws on counts by size: the recursion, the list of reached nodes, a pass over it, all sizes, the answers, what outcomes tell.
pub mod Counts
pub mod Reaching
pub mod Pass
pub mod Totals
pub mod Answer
pub mod Sums
pub mod Outcome
