-- Why an analysis answers as it does, when two outcomes are the same, the three promises of an analysis in one, its cuts by size, its report, what sites are to it, and what its list says alone.
pub mod Reasons
pub mod Coincide
pub mod Delivers
pub mod Memo
pub mod BySize
pub mod Report
pub mod Maintained
pub mod Matters
pub mod Old
pub mod Sites
pub mod Changed
pub mod Season
pub mod ListAlone
