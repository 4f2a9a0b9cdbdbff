-- The pages of a listing.
pub mod Pages
