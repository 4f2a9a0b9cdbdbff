-- Inputs joined, a gate by its kind and a gate with its inputs as diagrams, and what making a row of nodes answers.
pub mod Kinds
pub mod Rules
pub mod Rows
