pub mod Laying
pub mod Rows
pub mod Gates
pub mod Chances
pub mod Exports
