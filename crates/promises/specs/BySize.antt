-- THE CUTS BY SIZE: what `sizes` answers on the cut table of a done analysis of the tree t.
-- Assumes nothing.
use Rattle.std.specs.Prelude.{◌≡◌, ◌≢◌, ◌↔◌, List, ℕ, ◌<◌, length, get_or}
use Rattle.paper.specs.Trees.{Tree, events, root_fun}
use Rattle.paper.specs.Cuts.{cut_list}
use Rattle.paper.specs.Sizes.{cuts_of_size, largest, sizes, together}
use Rattle.sizes.specs.Counted.{Enough, Counted}
use Rattle.memory.specs.Memory.{Memory}
use Rattle.memory.specs.Analysis.{Analysis}

-- some size has more minimal cuts than can be answered
pub record Uncountable (t : Tree) : Type 0 where
  pub size : ℕ
  pub above : largest < cuts_of_size t size

-- it takes the table; where it answers 0, its counts are those of the minimal cuts of each size, and add up to their number; where all that it is
-- lent is long enough, it answers 19 exactly if some count is above 2^64 - 1, and 0 otherwise
pub record BySize (t : Tree) (m : Memory) (a : Analysis) : Type 0 where
  pub takes : {number place : ℕ} {C B W R C' B' W' R' : List ℕ}
      → Counted (events t) m.cuts a.cut_nodes a.cut_root number place C B W R C' B' W' R' → number ≢ 12
  pub counts : {number place : ℕ} {C B W R C' B' W' R' : List ℕ}
      → Counted (events t) m.cuts a.cut_nodes a.cut_root number place C B W R C' B' W' R' → number ≡ 0
      → (k : ℕ) → k < sizes → get_or C' k 0 ≡ cuts_of_size t k
  pub adds_up : {number place : ℕ} {C B W R C' B' W' R' : List ℕ}
      → Counted (events t) m.cuts a.cut_nodes a.cut_root number place C B W R C' B' W' R' → number ≡ 0
      → together (λ k. get_or C' k 0) ≡ length (cut_list (events t) (root_fun t.gates))
  pub nineteen : {number place : ℕ} {C B W R C' B' W' R' : List ℕ}
      → Counted (events t) m.cuts a.cut_nodes a.cut_root number place C B W R C' B' W' R' → Enough m.cuts C B W R
      → (number ≡ 19) ↔ Uncountable t
  pub zero : {number place : ℕ} {C B W R C' B' W' R' : List ℕ}
      → Counted (events t) m.cuts a.cut_nodes a.cut_root number place C B W R C' B' W' R' → Enough m.cuts C B W R
      → (number ≡ 0) ↔ (Uncountable t → ⊥)
