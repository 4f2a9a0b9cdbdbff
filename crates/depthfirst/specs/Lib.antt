-- Equations as flat arrays, the work lists of the walk over them, what the walks and the look for the root answer, and worked examples.
pub mod Inputs
pub mod Marking
pub mod Answers
pub mod Examples
