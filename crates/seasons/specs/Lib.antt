-- An analysis under the settings of an edition.
pub mod Seasons
pub mod Steps
