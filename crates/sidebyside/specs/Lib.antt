-- Cuts as lists of members, one cut read, two listings walked, and what that finds.
pub mod Members
pub mod OneCut
pub mod Walking
pub mod Finding
pub mod Merging
pub mod Sided
pub mod Judge
pub mod Differing
pub mod Examples
