-- The laws of two nodes: taken apart, and what is asked first.
pub mod Apart
pub mod Questions
