-- What the steps on two nodes promise.
pub mod Pairs
