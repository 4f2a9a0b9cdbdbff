-- HOW MUCH EACH EVENT MATTERS: what `importance` answers on the node table of a done analysis of the tree t is right of the tree's root.
-- Assumes nothing.
use Rattle.std.specs.Prelude.{◌≡◌, ◌≢◌, true, false, List, ℕ, ◌-◌, ◌≤◌, ◌<◌, length, get_or}
use Rattle.paper.specs.Limits.{billion}
use Rattle.paper.specs.Functions.{Fun, fix_f, Depends, depends_on}
use Rattle.paper.specs.Trees.{Tree, events, root_fun}
use Rattle.paper.specs.Chance.{total}
use Rattle.paper.specs.Importance.{importance_low, importance_high, Encloses, Ranks}
use Rattle.bracket.specs.Bracketed.{chance_in}
use Rattle.importance.specs.Weighed.{Enough, Weighed, firsts}
use Rattle.memory.specs.Memory.{Memory}
use Rattle.memory.specs.Analysis.{Analysis}
use Rattle.promises.specs.Delivers.{Own}

-- the exact chance of F, times D to the power of the number of events
abbrev pub sum_of : Tree → List ℕ → Fun → ℕ
sum_of t A F = total billion (chance_in A) (events t) 0 F

-- the low and high numbers and the ranking of the tree's events, for the chances A. F is the root's function: each pair encloses the difference of its
-- exact chances with the event failed and with it sound, each end less than 2L away, where L is the number of events that F itself depends on; both are
-- 0 for an event that it does not depend on. The ranking is by the low numbers, greatest first, ties to the lower event, each once; no other list is.
pub record Importances (t : Tree) (F : Fun) (A lows highs rank : List ℕ) : Type 0 where
  pub encloses : (i : ℕ) → i < events t
      → Encloses billion (events t - 1) (sum_of t A (fix_f i true F)) (sum_of t A (fix_f i false F)) (depends_on (events t) F) (get_or lows i 0) (get_or highs i 0)
  pub nothing : (i : ℕ) → i < events t → (Depends F i → ⊥) → (get_or lows i 0 ≡ 0) × (get_or highs i 0 ≡ 0)
  pub low_words : (i : ℕ) → i < events t → get_or lows i 0 ≡ importance_low billion (chance_in A) (events t) F i
  pub high_words : (i : ℕ) → i < events t → get_or highs i 0 ≡ importance_high billion (chance_in A) (events t) F i
  pub ranks : Ranks (λ i. get_or lows i 0) (events t) (firsts (events t) rank)
  pub no_other : (l : List ℕ) → Ranks (λ i. get_or lows i 0) (events t) l → l ≡ firsts (events t) rank

-- `importance` takes the table; with the tree's own chances, and lists and areas that are long enough, it answers 0; what it answers with 0 is so
pub record Matters (t : Tree) (m : Memory) (a : Analysis) : Type 0 where
  pub takes : {A L H R W U K L' H' R' W' U' K' : List ℕ} {number place : ℕ}
      → Weighed (events t) m.nodes a.nodes a.root A number place L H R W U K L' H' R' W' U' K' → number ≢ 12
  pub answers : {A L H R W U K L' H' R' W' U' K' : List ℕ} {number place : ℕ}
      → Weighed (events t) m.nodes a.nodes a.root A number place L H R W U K L' H' R' W' U' K' → Own t A → Enough (events t) m.nodes A L H R W U K → number ≡ 0
  pub numbers : {A L H R W U K L' H' R' W' U' K' : List ℕ} {number place : ℕ}
      → Weighed (events t) m.nodes a.nodes a.root A number place L H R W U K L' H' R' W' U' K' → number ≡ 0 → Importances t (root_fun t.gates) A L' H' R'
