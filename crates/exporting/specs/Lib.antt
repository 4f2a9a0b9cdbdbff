pub mod Laying
pub mod Exports
