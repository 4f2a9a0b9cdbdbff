-- What an import is lent, what it answers, what is known of the names on the way, and what is shown.
pub mod Lists
pub mod Imported
pub mod Contract
pub mod Knowing
pub mod Kinds
pub mod Showing
pub mod Judging
pub mod Promises
