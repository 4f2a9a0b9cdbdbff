-- The laws of the walk over the reportable cuts.
pub mod Weights
pub mod Kept
pub mod Turns
pub mod Hopes
