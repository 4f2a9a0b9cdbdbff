-- Steps in a row, the rule of at least k, and its loops.
pub mod Making
pub mod AtLeast
pub mod Stages
pub mod Taking
