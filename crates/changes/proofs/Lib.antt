pub mod Stretches
pub mod Once
pub mod Amounts
