-- The tree of an order of names, what planting it answers, and a worked example.
pub mod Orders
pub mod Planting
pub mod Examples
