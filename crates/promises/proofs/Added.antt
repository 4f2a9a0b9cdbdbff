-- WHAT EACH GATE ADDS, and the gate that fills the table: theorems on the definitions, and of the list that a done analysis leaves.
-- Assumes nothing.
use mathlib.Core.Path.{◌≡◌, refl, sym, ap, ap₂, ◌∙◌}
use mathlib.Core.Logic.{◌↔◌}
use mathlib.Core.List.{List, [], ◌∷◌, map}
use Prim.Native.Nat.{ℕ, zero, suc, ◌+◌, ◌≤◌}
use native.Mathlib.Omega.{arith}
use lib.ListN.{length, get_or}
use Rattle.paper.specs.Lists.{up_to, sum, sum_of}
use Rattle.paper.specs.Trees.{Tree}
use Rattle.paper.specs.Nodes.{nodes_of, nodes_added}
use Rattle.paper.specs.Answers.{NodesFull, FilledAt}
use Rattle.algebra.proofs.Prefixes.{added_sum, filled_full, full_filled, filled_once}
use Rattle.sizes.proofs.Sums.{sum_same}
use Rattle.memory.specs.Memory.{Memory}
use Rattle.memory.specs.Outcome.{Done}
use Rattle.memory.specs.Analysis.{Analysis}

-- ---- the gate

-- MORE NODES ARE NEEDED than there is room for exactly if some gate is the first to fill it, and that gate is one only
pub full_exactly : (t : Tree) (capacity : ℕ) → NodesFull t capacity ↔ ((g : ℕ) × FilledAt t capacity g)
full_exactly t capacity = (full_filled t capacity, λ (g, f). filled_full t capacity f)

pub one_gate : (t : Tree) (capacity : ℕ) {g h : ℕ} → FilledAt t capacity g → FilledAt t capacity h → g ≡ h
one_gate t capacity = filled_once t capacity

-- ---- the list

-- a list is its numbers, one after the other
shifted : (f : ℕ → ℕ) (k m : ℕ) → map f (up_to k (suc m)) ≡ map (λ i. f (suc i)) (up_to k m)
shifted f zero m = refl
shifted f (suc k) m = ap (f (suc m) ∷◌) (shifted f k (suc m))

nothing : (l : List ℕ) → sum (map (λ i. get_or {A = ℕ} [] i 0) l) ≡ 0
nothing [] = refl
nothing (x ∷ l) = let r = nothing l in omega (arith, r)

-- THE SUM of a list that is zero from n on is that of its first n numbers
sum_first : (A : List ℕ) (n : ℕ) → ((i : ℕ) → n ≤ i → get_or A i 0 ≡ 0) → sum A ≡ sum_of n (λ i. get_or A i 0)
sum_first [] n z = sym (nothing (up_to n 0))
sum_first (x ∷ A) zero z = let a = z 0 (omega arith) in let r = sum_first A 0 (λ i h. z (suc i) (omega arith)) in omega (arith, a, r)
sum_first (x ∷ A) (suc n) z =
    ap₂ ◌+◌ refl (sum_first A n (λ i h. z (suc i) (omega arith)) ∙ ap sum (sym (shifted (λ i. get_or (x ∷ A) i 0) n 0)))

-- WHAT THE GATES ADD comes to the nodes: of any tree, and of the list that a done analysis leaves
pub added_to_nodes : (t : Tree) → sum_of (length t.gates) (nodes_added t) ≡ nodes_of t
added_to_nodes t = added_sum t

pub adds_up : {t : Tree} {m m' : Memory} {a : Analysis} → Done t m m' a → sum m'.added ≡ a.nodes
adds_up {t} {m} {m'} d =
    sum_first m'.added (length t.gates) d.added_list.behind
    ∙ sum_same (length t.gates) (λ i. get_or m'.added i 0) (nodes_added t) d.added_list.each
    ∙ added_sum t ∙ sym d.node_count
