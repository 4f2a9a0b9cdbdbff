-- Text put into an array, and the lines of a listing's bytes.
pub mod Putting
pub mod Spelling
