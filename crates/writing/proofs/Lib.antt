pub mod Stores
pub mod Seeking
pub mod Emitting
pub mod Writing
