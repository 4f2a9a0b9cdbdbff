-- The definitions on case 1, on chances that do not divide, on one event, and on one that the root does not depend on.
-- Assumes nothing.
use Rattle.std.specs.Prelude.{◌≡◌, refl, true, false, List, [], ◌∷◌, map, ℕ, get_or}
use Rattle.std.proofs.Math.Decide.{ℕ_discrete}
use Rattle.paper.specs.Limits.{billion}
use Rattle.paper.specs.Diagrams.{Diagram, leaf, node, eval}
use Rattle.paper.specs.Importance.{importance_low, low_of, high_of, ranking}
use Rattle.algebra.specs.Operations.{event_d}

chances_of : List ℕ → ℕ → ℕ
chances_of A i = get_or A i 0

-- document 000, example 1: (c1 and c2) or (c2 and c3)
abbrev first : Diagram
first = node 0 (event_d 1) (node 1 (event_d 2) (leaf false))

tenth : ℕ
tenth = 100_000_000

record Mattered : Type 0 where
  lows : List ℕ
  highs : List ℕ
  ranked : List ℕ

matters : List ℕ → ℕ → Diagram → List ℕ → Mattered
matters A n d is = record { lows = map (low_of billion (chances_of A) d) is; highs = map (high_of billion (chances_of A) d) is; ranked = ranking (low_of billion (chances_of A) d) n 0 }

-- 90, 190 and 90 million billionths: c2 matters most, then c1 by its number
first_matters : matters (tenth ∷ tenth ∷ tenth ∷ []) 3 first (0 ∷ 1 ∷ 2 ∷ [])
    ≡ record { lows = 90_000_000 ∷ 190_000_000 ∷ 90_000_000 ∷ []; highs = 90_000_000 ∷ 190_000_000 ∷ 90_000_000 ∷ []; ranked = 1 ∷ 0 ∷ 2 ∷ [] }
unfolding matters chances_of tenth low_of high_of ℕ_discrete
first_matters = refl

-- the same by the request's words, from the functions with the event fixed
first_by_words : map (importance_low billion (chances_of (tenth ∷ tenth ∷ tenth ∷ [])) 3 (eval first)) (0 ∷ 1 ∷ 2 ∷ []) ≡ 90_000_000 ∷ 190_000_000 ∷ 90_000_000 ∷ []
unfolding chances_of tenth importance_low ℕ_discrete
first_by_words = refl

-- chances that do not divide: low is cut off at 0
sharp_matters : matters (333_333_333 ∷ 1 ∷ 999_999_999 ∷ []) 3 first (0 ∷ 1 ∷ 2 ∷ [])
    ≡ record { lows = 0 ∷ 999_999_999 ∷ 0 ∷ []; highs = 1 ∷ 1_000_000_000 ∷ 1 ∷ []; ranked = 1 ∷ 0 ∷ 2 ∷ [] }
unfolding matters chances_of low_of high_of ℕ_discrete
sharp_matters = refl

-- one event: D and D; and one that the root does not depend on: 0 and 0
one_matters : matters (5 ∷ []) 1 (event_d 0) (0 ∷ []) ≡ record { lows = billion ∷ []; highs = billion ∷ []; ranked = 0 ∷ [] }
unfolding matters chances_of low_of high_of
one_matters = refl

unused_matters : matters (1 ∷ 500_000_000 ∷ 1 ∷ []) 3 (node 0 (event_d 2) (leaf false)) (0 ∷ 1 ∷ 2 ∷ []) ≡ record { lows = 1 ∷ 0 ∷ 1 ∷ []; highs = 1 ∷ 0 ∷ 1 ∷ []; ranked = 0 ∷ 2 ∷ 1 ∷ [] }
unfolding matters chances_of low_of high_of ℕ_discrete
unused_matters = refl

-- no tree gives these. Not reduced: event 0 stands at a node whose branches are equal diagrams, and gets the plain difference, which encloses 0. Not
-- monotone: the root fails where event 0 is sound, and both numbers are cut off at 0
abbrev same : Diagram
same = node 1 (leaf true) (leaf false)

twice_matters : matters (tenth ∷ 333_333_333 ∷ []) 2 (node 0 same same) (0 ∷ 1 ∷ []) ≡ record { lows = 0 ∷ billion ∷ []; highs = 0 ∷ billion ∷ []; ranked = 1 ∷ 0 ∷ [] }
unfolding matters chances_of tenth low_of high_of ℕ_discrete
twice_matters = refl

mended_matters : matters (tenth ∷ []) 1 (node 0 (leaf false) (leaf true)) (0 ∷ []) ≡ record { lows = 0 ∷ []; highs = 0 ∷ []; ranked = 0 ∷ [] }
unfolding matters chances_of tenth low_of high_of ℕ_discrete
mended_matters = refl

-- the leaves: no event matters
leaf_matters : matters (tenth ∷ tenth ∷ []) 2 (leaf true) (0 ∷ 1 ∷ []) ≡ record { lows = 0 ∷ 0 ∷ []; highs = 0 ∷ 0 ∷ []; ranked = 0 ∷ 1 ∷ [] }
unfolding matters chances_of tenth low_of high_of ℕ_discrete
leaf_matters = refl
