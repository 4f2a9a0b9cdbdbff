-- The laws of bits, of sets in words, of their bytes, and of what stands beside them.
pub mod Bit
pub mod Words
pub mod Count
pub mod Bytes
pub mod Beside
pub mod Line
