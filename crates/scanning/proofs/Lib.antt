-- The passes over a text, line by line: names interned, definitions and chances found, inputs put in a row.
pub mod Known
pub mod Rows
pub mod Spots
pub mod Gathering
pub mod Equations
pub mod Defining
pub mod Giving
pub mod Sites
pub mod Filling
pub mod Fitting
