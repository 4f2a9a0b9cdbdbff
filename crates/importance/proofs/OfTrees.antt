-- The same of a table that shows a tree's root, as a built one does: in the words of the root's function.
-- Assumes nothing.
use mathlib.Core.Path.{◌≡◌, sym, ap, ◌∙◌, subst}
use mathlib.Core.Bool.{true, false}
use mathlib.Core.List.{List}
use Prim.Native.Nat.{ℕ, ◌-◌, ◌<◌}
use lib.ListN.{get_or}
use Rattle.paper.specs.Limits.{billion}
use Rattle.paper.specs.Functions.{fix_f, depends_on, Monotone}
use Rattle.paper.specs.Trees.{Gate, root_fun, TreeBelow}
use Rattle.paper.specs.Diagrams.{eval}
use Rattle.paper.specs.Chance.{total}
use Rattle.paper.specs.Importance.{importance_low, importance_high, Encloses, Ranks}
use Rattle.algebra.proofs.Promises.{root_shows}
use Rattle.algebra.proofs.Ranking.{rank_law, rank_same}
use Rattle.tables.specs.Table.{den}
use Rattle.tables.specs.Stored.{Unique}
use Rattle.bracket.specs.Bracketed.{chance_in}
use Rattle.importance.specs.Weighed.{low_in, firsts, Weighed}
use Rattle.importance.proofs.Tells.{encloses_built, low_by_words, high_by_words, low_stored, rank_stored}

module _ {n : ℕ} {T : List ℕ} {c root : ℕ} {A : List ℕ} {number place : ℕ} {L H R W U K L' H' R' W' U' K' : List ℕ}
    (outcome : Weighed n T c root A number place L H R W U K L' H' R' W' U' K') (zero_is : number ≡ 0)
    (t : List Gate) (below : TreeBelow n t) (unique : Unique T c) (shows : eval (den T root) ≡ root_fun t) where
  mono : Monotone (eval (den T root))
  mono = let (fit, same) = root_shows n t below in subst Monotone (same ∙ sym shows) fit.mono

  -- THE ENCLOSURE: L is the number of events that the root depends on
  pub tree_encloses : (i : ℕ) → i < n
      → Encloses billion (n - 1) (total billion (chance_in A) n 0 (fix_f i true (root_fun t))) (total billion (chance_in A) n 0 (fix_f i false (root_fun t))) (depends_on n (root_fun t)) (get_or L' i 0) (get_or H' i 0)
  tree_encloses i h =
      subst (λ F. Encloses billion (n - 1) (total billion (chance_in A) n 0 (fix_f i true F)) (total billion (chance_in A) n 0 (fix_f i false F)) (depends_on n F) (get_or L' i 0) (get_or H' i 0)) shows
      (encloses_built outcome zero_is unique mono i h)

  -- THE REQUEST'S WORDS
  pub tree_low : (i : ℕ) → i < n → get_or L' i 0 ≡ importance_low billion (chance_in A) n (root_fun t) i
  tree_low i h = low_by_words outcome zero_is unique mono i h ∙ ap (λ F. importance_low billion (chance_in A) n F i) shows

  pub tree_high : (i : ℕ) → i < n → get_or H' i 0 ≡ importance_high billion (chance_in A) n (root_fun t) i
  tree_high i h = high_by_words outcome zero_is unique mono i h ∙ ap (λ F. importance_high billion (chance_in A) n F i) shows

  -- THE RANKING by these numbers
  pub tree_ranked : Ranks (importance_low billion (chance_in A) n (root_fun t)) n (firsts n R')
  tree_ranked = subst (Ranks w n) (sym (rank_stored outcome zero_is ∙ rank_same (low_in T root A) w n (λ i h. sym (low_stored outcome zero_is i h) ∙ tree_low i h))) (rank_law w n)
    where
      w : ℕ → ℕ
      w = importance_low billion (chance_in A) n (root_fun t)
