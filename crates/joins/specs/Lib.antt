-- What joining two nodes promises.
pub mod Joins
