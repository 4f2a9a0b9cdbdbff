-- What is weighed of each node, when a set below a node is reportable, and where a walk over the reportable cuts is.
pub mod Weights
pub mod Hopes
