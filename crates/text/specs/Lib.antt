-- The program's lines, and text at the front of a lent array.
pub mod Lines
pub mod Places
