-- The path of a walk, what stays of its set, and what there is to list.
pub mod Paths
pub mod Follows
pub mod After
