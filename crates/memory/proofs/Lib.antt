-- Memory that has the same lengths.
pub mod Before
pub mod Refusing
