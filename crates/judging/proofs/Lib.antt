pub mod Coding
pub mod Rest
pub mod Following
pub mod Surveying
