-- What the passes over a text answer: its names, where each is defined, its chances, and its inputs as flat arrays.
pub mod Scanning
pub mod Judged
pub mod Filling
