-- Text put into a lent array.
pub mod Places
