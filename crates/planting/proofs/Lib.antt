-- The parts of an order; its events put into an array; one gate; a gate's inputs put into an array; and the gates.
pub mod Orders
pub mod Sowing
pub mod Gates
pub mod Putting
pub mod Sorting
pub mod Growing
