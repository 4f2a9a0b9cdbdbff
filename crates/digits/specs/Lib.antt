-- What some digits stand for.
pub mod Digits
