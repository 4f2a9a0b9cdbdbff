pub mod Lengths
pub mod Adding
pub mod Unwritten
