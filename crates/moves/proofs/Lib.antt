pub mod Forms
pub mod Moving
pub mod Promises
