-- How the product's answers stand in arrays of numbers.
pub mod Arrays
pub mod Numbers
pub mod Planning
pub mod TwoListings
