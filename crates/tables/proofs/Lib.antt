-- The laws on tables: flags, the check, what numbers denote, growth, lent tables, tables without equal nodes.
pub mod Flags
pub mod Check
pub mod Den
pub mod Growth
pub mod Lent
pub mod Once
