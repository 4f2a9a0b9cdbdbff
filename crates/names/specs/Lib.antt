-- Names in chains, and what interning one answers.
pub mod Interning
