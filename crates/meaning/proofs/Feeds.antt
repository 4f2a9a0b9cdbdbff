-- A line without a line feed in it, and then one, is the first line of a text.
-- Assumes nothing.
use mathlib.Core.Path.{◌≡◌, refl, sym, ap, ◌∙◌, subst}
use mathlib.Core.Bool.{Bool, true, false, cond, ◌&&◌, false≢true}
use mathlib.Core.List.{List, [], ◌∷◌, ◌++◌}
use Prim.Native.Nat.{ℕ, zero, ◌+◌, ◌-◌}
use native.Mathlib.Omega.{arith}
use borrow.Author.Tests.{ne_eqb, leb-true}
use lib.Dec.{leb}
use lib.ListN.{length}
use Rattle.paper.specs.Lists.{every}
use Rattle.paper.specs.Bytes.{starts, onto, parts_on, parts}
use Rattle.paper.specs.Grammar.{line_of}
use Rattle.paper.specs.Texts.{says, line_feed, placed, lines_from}

feed_parts : (l rest : List ℕ) → every (leb 32) l ≡ true → parts line_feed (l ++ (10 ∷ rest)) ≡ l ∷ parts line_feed rest
unfolding parts_on starts
feed_parts [] rest h = refl
feed_parts (b ∷ l) rest h = go (leb 32 b) refl h (feed_parts l rest)
  where
    go : (t : Bool) → leb 32 b ≡ t → (t && every (leb 32) l) ≡ true → (every (leb 32) l ≡ true → parts line_feed (l ++ (10 ∷ rest)) ≡ l ∷ parts line_feed rest)
        → parts line_feed ((b ∷ l) ++ (10 ∷ rest)) ≡ (b ∷ l) ∷ parts line_feed rest
    go true e k r =
        let m = leb-true 32 b e in
        let n : 10 ≡ b → ⊥ = λ q. omega arith in
        rw (ne_eqb 10 b n) (ap (onto b) (r k))
    go false e k r = absurd (false≢true k)

onto_some : (b : ℕ) (ps : List (List ℕ)) → (m : List ℕ) × (ms : List (List ℕ)) × (onto b ps ≡ m ∷ ms)
onto_some b [] = (b ∷ [], [], refl)
onto_some b (w ∷ ws) = (b ∷ w, ws, refl)

parts_some : (l : List ℕ) → (m : List ℕ) × (ms : List (List ℕ)) × (parts line_feed l ≡ m ∷ ms)
unfolding parts_on
parts_some [] = ([], [], refl)
parts_some (b ∷ l) = go (starts line_feed (b ∷ l))
  where
    go : (t : Bool) → (m : List ℕ) × (ms : List (List ℕ)) × (cond t ([] ∷ parts_on line_feed (length line_feed - 1) l) (onto b (parts_on line_feed zero l)) ≡ m ∷ ms)
    go true = ([], parts_on line_feed (length line_feed - 1) l, refl)
    go false = onto_some b (parts_on line_feed zero l)

placed_next : (at : ℕ) (l : List ℕ) (ps : List (List ℕ)) → (m : List ℕ) × (ms : List (List ℕ)) × (ps ≡ m ∷ ms) → placed at (l ∷ ps) ≡ says at (line_of l) ∷ placed (at + length l + 1) ps
placed_next at l ps (m, ms, e) = subst (λ qs. placed at (l ∷ qs) ≡ says at (line_of l) ∷ placed (at + length l + 1) qs) (sym e) refl

pub lines_next : (at : ℕ) (l rest : List ℕ) → every (leb 32) l ≡ true → lines_from at (l ++ (10 ∷ rest)) ≡ says at (line_of l) ∷ lines_from (at + length l + 1) rest
unfolding lines_from
lines_next at l rest h = ap (placed at) (feed_parts l rest h) ∙ placed_next at l (parts line_feed rest) (parts_some rest)

pub lines_none : (at : ℕ) → lines_from at [] ≡ []
unfolding lines_from parts_on
lines_none at = refl
