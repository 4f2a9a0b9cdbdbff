-- The nodes that the tables hold, a tree that was read, and from building to the answer.
pub mod Holding
pub mod Tables
pub mod Reading
pub mod Filling
pub mod Flags
