-- What the product's calls answer, and what they leave in all that was lent.
pub mod Analysed
pub mod Verdicts
