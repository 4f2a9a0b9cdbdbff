-- From a tree in memory to the answer under settings; what the answer depends on.
pub mod Unseen
pub mod InMemory
pub mod Outcomes
pub mod Editions
