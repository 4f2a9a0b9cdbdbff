-- Laws of lists of names, and of the chains that hold them.
pub mod Dicts
pub mod Interning
