-- The laws of one gate: the nodes of its inputs, these joined from left to right, the gate by its kind, and the inputs that count.
pub mod Joining
pub mod Folding
pub mod EachKind
pub mod Rows
pub mod ByKind
pub mod Counted
