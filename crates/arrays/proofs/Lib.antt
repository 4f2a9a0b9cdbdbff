-- Arrays that are filled from the front on, and what stands in them.
pub mod Filling
pub mod Chances
