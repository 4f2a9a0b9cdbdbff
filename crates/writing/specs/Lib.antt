pub mod Sites
pub mod Writes
pub mod Inner
