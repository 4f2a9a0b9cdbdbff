-- What a folder is judged by before its trees, and how its totals are made.
pub mod Fitting
pub mod Adding
