pub mod Answers
pub mod TwoListings
