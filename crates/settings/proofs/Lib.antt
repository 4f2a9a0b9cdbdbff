pub mod Judged
pub mod Editions
pub mod Reading
pub mod Chances
