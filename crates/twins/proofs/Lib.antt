-- The laws of what passes a test, of what stands once, of a gate's distinct inputs, and of the search for them.
pub mod Kept
pub mod Firsts
pub mod Codes
pub mod Inputs
pub mod Sifting
