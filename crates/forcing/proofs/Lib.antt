-- The laws of a tree under settings: its inputs, its functions, its chance; and the numbers that stand for its inputs.
pub mod Inputs
pub mod Functions
pub mod Trees
pub mod Chance
pub mod Constant
pub mod Codes
