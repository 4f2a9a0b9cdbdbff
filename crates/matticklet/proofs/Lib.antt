-- The pages of a listing.
pub mod Turning
pub mod TopLine
