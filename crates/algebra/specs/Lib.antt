-- Operations on diagrams, and on the families that diagrams denote.
pub mod Operations
pub mod Families
pub mod Reports
pub mod Examples
