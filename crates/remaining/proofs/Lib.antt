-- The laws on the sets that miss others: by recursion over a diagram, by the passes over its table, and what the answers say.
pub mod Missing
pub mod Caps
pub mod Marking
pub mod Counting
pub mod Answering
pub mod Once
