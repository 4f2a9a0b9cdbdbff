-- The laws of all gates: one after the other, the nodes that they need, what they mean, and the tree in memory.
pub mod Gates
pub mod Sofar
pub mod Needed
pub mod Meaning
pub mod Reading
