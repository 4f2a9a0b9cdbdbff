-- Laws of fronts and parts of lists of bytes, of names, numbers and lines; and that the grammar is exactly what can be typed.
pub mod Tests
pub mod Leads
pub mod Parts
pub mod Names
pub mod Numbers
pub mod Judging
pub mod Lines
pub mod Spelling
pub mod Only
