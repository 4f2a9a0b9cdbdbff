-- A tree's events as an array of chances.
pub mod Chances
