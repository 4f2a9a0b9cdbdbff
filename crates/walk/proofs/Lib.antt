-- Paths and what is left at them, the walk along a set, and the set that goes with a path.
pub mod Paths
pub mod Steps
pub mod Behind
pub mod After
pub mod Carry
pub mod Members
pub mod Follow
