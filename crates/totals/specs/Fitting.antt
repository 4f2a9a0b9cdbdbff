-- What is judged of a folder before any tree is looked at.
-- Assumes nothing.
use Rattle.std.specs.Prelude.{◌≡◌, List, ℕ, ◌≤◌, length}
use Rattle.paper.specs.Lists.{sum}
use Rattle.sizes.specs.Counted.{Enough}

-- a folder has at most so many trees
abbrev pub most_trees : ℕ
most_trees = 64

-- NOT THE FIRST 9: few trees, lengths that add up to the bytes, and enough counts C and areas B, W, R for a cut table as long as T
pub record Fitting (bytes lengths T C B W R : List ℕ) : Type 0 where
  pub few : length lengths ≤ most_trees
  pub whole : sum lengths ≡ length bytes
  pub enough : Enough T C B W R
