-- A tree that was read, its finished node table, and what comes of them.
pub mod Completing
pub mod Filling
