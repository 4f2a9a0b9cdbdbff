-- A worked example: a = b1 or b2, b1 = c1 and c2, b2 = 2 of c2, c3, where the names a, b1, b2, c1, c2, c3 are 0 to 5.
-- Assumes nothing.
use Rattle.std.specs.Prelude.{◌≡◌, refl, List, [], ◌∷◌, ℕ}
use Rattle.paper.specs.Limits.{limits}
use Rattle.paper.specs.Trees.{event, gate, and_g, or_g, least_g, Tree}
use Rattle.paper.specs.Importing.{events_break, gates_break, broken}
use Rattle.depthfirst.specs.Inputs.{inputs_of}
use Rattle.planting.specs.Orders.{gate_at, chances_among, gates_among, tree_among}

starts : List ℕ
starts = 0 ∷ 2 ∷ 4 ∷ 6 ∷ 6 ∷ 6 ∷ 6 ∷ []

inputs : List ℕ
inputs = 1 ∷ 2 ∷ 3 ∷ 4 ∷ 4 ∷ 5 ∷ []

-- chances of 10, 20 and 30 for c1, c2, c3; the order in which the walk from a leaves the names; a k of 2, or of 3
planted : ℕ → Tree
unfolding starts inputs
planted k = tree_among starts inputs (0 ∷ 0 ∷ 0 ∷ 10 ∷ 20 ∷ 30 ∷ []) (2 ∷ 0 ∷ 1 ∷ 0 ∷ 1 ∷ 2 ∷ []) (3 ∷ 2 ∷ 4 ∷ 0 ∷ 0 ∷ 0 ∷ []) (0 ∷ 0 ∷ k ∷ 0 ∷ 0 ∷ 0 ∷ []) (3 ∷ 4 ∷ 1 ∷ 5 ∷ 2 ∷ 0 ∷ [])

tree_planted : planted 2 ≡ record {
  chances = 10 ∷ 20 ∷ 30 ∷ [];
  gates = and_g (event 0 ∷ event 1 ∷ []) ∷ least_g 2 (event 1 ∷ event 2 ∷ []) ∷ or_g (gate 0 ∷ gate 1 ∷ []) ∷ [];
}
unfolding planted starts inputs chances_among gates_among gate_at inputs_of
tree_planted = refl

fine : broken limits (planted 2) ≡ 0
unfolding broken events_break gates_break planted starts inputs chances_among gates_among gate_at inputs_of
fine = refl

least_too_high : broken limits (planted 3) ≡ 5
unfolding broken events_break gates_break planted starts inputs chances_among gates_among gate_at inputs_of
least_too_high = refl
