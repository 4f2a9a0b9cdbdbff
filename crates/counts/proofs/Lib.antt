-- Cuts counted room by room, and the lengths of the memory that is lent.
pub mod Counting
pub mod Parts
