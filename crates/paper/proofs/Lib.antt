-- The laws of a listing's bytes: their records, how many they are, and that few events have their old ones.
pub mod Listing
pub mod Longest
pub mod Old
pub mod Refusals
