-- THE COUNT: as many nodes as needed, gate by gate and of the whole tree; and full at the first gate with which more are needed than there is room for.
-- Assumes nothing.
use mathlib.Core.Path.{◌≡◌, ap₂, ◌∙◌, subst}
use mathlib.Core.List.{List, [], ◌∷◌}
use Prim.Native.Nat.{ℕ, zero, suc, ◌+◌, ◌-◌, ◌/◌, ◌≤◌, ◌<◌}
use native.Mathlib.Decide.{dec_lt}
use native.Mathlib.Omega.{arith}
use lib.ListN.{length, take, get_or}
use Rattle.paper.specs.Trees.{Gate, Tree, events, TreeBelow}
use Rattle.paper.specs.Steps.{step_funs}
use Rattle.paper.specs.Nodes.{nodes_needed, nodes_to_gate, nodes_added}
use Rattle.paper.specs.Answers.{FilledAt}
use Rattle.algebra.specs.Operations.{node_count, step_diagrams}
use Rattle.algebra.proofs.Gates.{tree_nodes}
use Rattle.algebra.proofs.Prefixes.{to_gate_le}
use Rattle.build.specs.Finishing.{AddedTo, Whole, TooMany}

-- ---- for a tree of n events

module _ (n : ℕ) (t : List Gate) (b : TreeBelow n t) where
  -- done: the table holds as many nodes as the tree needs, and that is no more than it has room for
  pub count_needed : {G A T H X : List ℕ} {root c : ℕ} → Whole t G A T H X root c → c ≡ nodes_needed n (step_funs t)
  count_needed w = w.count ∙ tree_nodes n t b

  pub needed_fits : {G A T H X : List ℕ} {root c : ℕ} → Whole t G A T H X root c → nodes_needed n (step_funs t) ≤ length T / 3
  needed_fits {T = T} w = subst (λ k. k ≤ length T / 3) (count_needed w) (let r = w.store.room in omega arith)

-- ---- gate by gate

below_front : (n g : ℕ) (t : List Gate) → TreeBelow n t → TreeBelow n (take g t)
below_front n zero t b = tt
below_front n (suc g) [] b = tt
below_front n (suc g) (x ∷ t) (p, b) = (p, below_front n g t b)

module _ (t : Tree) (b : TreeBelow (events t) t.gates) where
  to_gate : (g : ℕ) → node_count (step_diagrams (take g t.gates)) ≡ nodes_to_gate t g
  to_gate g = tree_nodes (events t) (take g t.gates) (below_front (events t) g t.gates b)

  pub added_needed : {A : List ℕ} → AddedTo t.gates (length t.gates) A → (g : ℕ) → g < length t.gates → get_or A g 0 ≡ nodes_added t g
  added_needed a g h = a.each g h ∙ ap₂ ◌-◌ (to_gate (g + 1)) (to_gate g)

  -- full at gate g: the gates before it fit, and with it they do not
  pub filled_at : {room g : ℕ} → TooMany t.gates room g → FilledAt t room g
  filled_at {room} {g} o = record {
    inside = o.inside;
    over = subst (λ k. room < k) (to_gate (g + 1)) o.over;
    least = λ h q. go h q (dec_lt h g);
  }
    where
      go : (h : ℕ) → room < nodes_to_gate t (h + 1) → Dec (h < g) → g ≤ h
      go h q (yes l) = absurd (let f = o.before in let e = to_gate g in let m = to_gate_le t (h + 1) g (omega arith) in omega (arith, f, e, m, q))
      go h q (no n) = omega arith
