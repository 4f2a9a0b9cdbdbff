-- A tree in memory whose forced events are constants.
pub mod Codes
