-- What a table of nodes denotes, and when a lent one is a diagram.
pub mod Table
pub mod Flags
pub mod Stored
pub mod Lent
pub mod Check
