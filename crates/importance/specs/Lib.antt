-- What the importance of events answers, and what its passes over the nodes store.
pub mod Fixed
pub mod Weighed
pub mod Examples
