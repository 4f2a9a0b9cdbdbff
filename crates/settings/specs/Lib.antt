-- A store of settings: its judgement in words, the states of the events, and their chances.
pub mod Judged
pub mod States
