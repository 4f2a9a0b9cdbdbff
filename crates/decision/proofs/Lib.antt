pub mod Looking
pub mod Contains
pub mod Once
pub mod Computed
