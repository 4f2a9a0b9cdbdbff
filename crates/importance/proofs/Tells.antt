-- What an outcome with number 0 tells: the numbers enclose the difference that each event makes, are those of the functions with the event fixed, and the
-- ranking ranks and is the only one.
-- Assumes nothing.
use mathlib.Core.Path.{◌≡◌, refl, sym, ap, ap₂, ◌∙◌, subst, subst₂}
use mathlib.Core.Bool.{true, false}
use mathlib.Core.List.{List, map}
use Prim.Native.Nat.{ℕ, zero, suc, ◌+◌, ◌-◌, ◌≤◌, ◌<◌}
use native.Mathlib.Omega.{arith}
use lib.ListN.{length, get_or}
use lib.Seq.{ext_get_or}
use Rattle.paper.specs.Limits.{billion}
use Rattle.paper.specs.Lists.{up_to}
use Rattle.paper.specs.Functions.{fix_f, depends_on, Monotone}
use Rattle.paper.specs.Diagrams.{Diagram, eval, Ordered}
use Rattle.paper.specs.Chance.{total, low, high, stands, standing}
use Rattle.paper.specs.Importance.{importance_low, importance_high, low_of, high_of, Encloses, Ranks, ranking}
use Rattle.algebra.proofs.Without.{Fit}
use Rattle.algebra.proofs.Depends.{standing_depends}
use Rattle.algebra.proofs.Restrict.{total_certain, restricted_low, restricted_high}
use Rattle.algebra.proofs.Importance.{encloses_of, importance_low_lem, importance_high_lem}
use Rattle.algebra.proofs.Ranking.{rank_law, rank_unique}
use Rattle.tables.specs.Table.{den}
use Rattle.tables.specs.Stored.{Unique}
use Rattle.tables.specs.Lent.{Lent}
use Rattle.tables.proofs.Lent.{root_ordered}
use Rattle.tables.proofs.Once.{lent_good}
use Rattle.bracket.specs.Bracketed.{chance_in, Chances}
use Rattle.importance.specs.Weighed.{low_in, high_in, rank_at, firsts, Done, Weighed, no_diagram, too_short, no_chance, done}
use Rattle.importance.proofs.Places.{length_ranking}

-- ---- on diagrams of n = k + 1 events

module _ (k n : ℕ) (q : n ≡ suc k) (a : ℕ → ℕ) (h : (i : ℕ) → i < n → a i ≤ billion) (d : Diagram) (i : ℕ) (il : i < n) where
  chances : (j : ℕ) → j < suc k → a j ≤ billion
  chances j l = h j (omega arith)

  encloses_at : Ordered 0 n d → Monotone (eval d)
      → Encloses billion (n - 1) (total billion a n 0 (fix_f i true (eval d))) (total billion a n 0 (fix_f i false (eval d))) (standing n 0 d) (low_of billion a d i) (high_of billion a d i)
  encloses_at o mono =
      let p : k ≡ n - 1 = omega arith in
      subst₂ (λ n j. Encloses billion j (total billion a n 0 (fix_f i true (eval d))) (total billion a n 0 (fix_f i false (eval d))) (standing n 0 d) (low_of billion a d i) (high_of billion a d i))
      (sym q) p
      (subst₂ (λ x y. Encloses billion k x y (standing (suc k) 0 d) (low_of billion a d i) (high_of billion a d i))
      (total_certain billion a i true (suc k) 0 (eval d) (omega arith) (omega arith) (h i il))
      (total_certain billion a i false (suc k) 0 (eval d) (omega arith) (omega arith) (h i il))
      (encloses_of billion a (omega arith) k chances d (subst (λ n. Ordered 0 n d) q o) mono i (omega arith)))

  low_words : Fit n 0 d → importance_low billion a n (eval d) i ≡ low_of billion a d i
  low_words f = ap (λ n. importance_low billion a n (eval d) i) q ∙ importance_low_lem billion a (omega arith) k chances d (subst (λ n. Fit n 0 d) q f) i (omega arith)

  high_words : Fit n 0 d → importance_high billion a n (eval d) i ≡ high_of billion a d i
  high_words f = ap (λ n. importance_high billion a n (eval d) i) q ∙ importance_high_lem billion a (omega arith) k chances d (subst (λ n. Fit n 0 d) q f) i (omega arith)

-- ---- the first n numbers of a list

up_length : (f : ℕ → ℕ) (k m : ℕ) → length (map f (up_to k m)) ≡ k
up_length f zero m = refl
up_length f (suc k) m = ap suc (up_length f k (suc m))

up_at : (f : ℕ → ℕ) (k m p : ℕ) → p < k → get_or (map f (up_to k m)) p 0 ≡ f (m + p)
up_at f zero m p l = absurd (omega arith)
up_at f (suc k) m zero l = let q : m ≡ m + 0 = omega arith in ap f q
up_at f (suc k) m (suc p) l = let q : suc m + p ≡ m + suc p = omega arith in up_at f k (suc m) p (omega arith) ∙ ap f q

-- ---- of an outcome with number 0

module _ {n : ℕ} {T : List ℕ} {c root : ℕ} {A : List ℕ} {number place : ℕ} {L H R W U K L' H' R' W' U' K' : List ℕ}
    (outcome : Weighed n T c root A number place L H R W U K L' H' R' W' U' K') (zero_is : number ≡ 0) where
  is_done : Lent false n T c root × Chances n A × Done n T root A number place L H R W U K L' H' R' W' U' K'
  is_done = go outcome
    where
      go : Weighed n T c root A number place L H R W U K L' H' R' W' U' K' → Lent false n T c root × Chances n A × Done n T root A number place L H R W U K L' H' R' W' U' K'
      go (no_diagram x r) = let w = r.number_is in absurd (omega arith)
      go (too_short v x r) = let w = r.number_is in absurd (omega arith)
      go (no_chance v e x r) = let w = r.number_is in absurd (omega arith)
      go (done v e p r) = (v, p, r)

  events : n ≡ suc (n - 1)
  events = let s = is_done.0.some_event in omega arith

  pub low_stored : (i : ℕ) → i < n → get_or L' i 0 ≡ low_in T root A i
  low_stored i h = is_done.2.lows.each i h

  low_is : (i : ℕ) → i < n → get_or L' i 0 ≡ low_of billion (chance_in A) (den T root) i
  unfolding low_in
  low_is i h = is_done.2.lows.each i h

  high_is : (i : ℕ) → i < n → get_or H' i 0 ≡ high_of billion (chance_in A) (den T root) i
  unfolding high_in
  high_is i h = is_done.2.highs.each i h

  -- THE ENCLOSURE, of any monotone diagram: L is the number of events that stand in the root's diagram
  pub encloses : Monotone (eval (den T root)) → (i : ℕ) → i < n
      → Encloses billion (n - 1) (total billion (chance_in A) n 0 (fix_f i true (eval (den T root)))) (total billion (chance_in A) n 0 (fix_f i false (eval (den T root)))) (standing n 0 (den T root)) (get_or L' i 0) (get_or H' i 0)
  encloses mono i h =
      subst₂ (λ x y. Encloses billion (n - 1) (total billion (chance_in A) n 0 (fix_f i true (eval (den T root)))) (total billion (chance_in A) n 0 (fix_f i false (eval (den T root)))) (standing n 0 (den T root)) x y)
      (sym (low_is i h)) (sym (high_is i h))
      (encloses_at (n - 1) n events (chance_in A) is_done.1.each (den T root) i h (root_ordered is_done.0) mono)

  -- of a table without equal nodes, as a built one, L is the number of events that the root's function depends on
  pub encloses_built : Unique T c → Monotone (eval (den T root)) → (i : ℕ) → i < n
      → Encloses billion (n - 1) (total billion (chance_in A) n 0 (fix_f i true (eval (den T root)))) (total billion (chance_in A) n 0 (fix_f i false (eval (den T root)))) (depends_on n (eval (den T root))) (get_or L' i 0) (get_or H' i 0)
  encloses_built unique mono i h =
      let (o, r) = lent_good is_done.0 unique root is_done.0.root_in in
      subst (λ m. Encloses billion (n - 1) (total billion (chance_in A) n 0 (fix_f i true (eval (den T root)))) (total billion (chance_in A) n 0 (fix_f i false (eval (den T root)))) m (get_or L' i 0) (get_or H' i 0))
      (standing_depends n (den T root) o r) (encloses mono i h)

  -- THE REQUEST'S WORDS: of such a table the numbers are those of the root's function
  module _ (unique : Unique T c) (mono : Monotone (eval (den T root))) where
    fits : Fit n 0 (den T root)
    fits = let (o, r) = lent_good is_done.0 unique root is_done.0.root_in in record { ordered = o; reduced = r; mono = mono }

    pub low_by_words : (i : ℕ) → i < n → get_or L' i 0 ≡ importance_low billion (chance_in A) n (eval (den T root)) i
    low_by_words i h = low_is i h ∙ sym (low_words (n - 1) n events (chance_in A) is_done.1.each (den T root) i h fits)

    pub high_by_words : (i : ℕ) → i < n → get_or H' i 0 ≡ importance_high billion (chance_in A) n (eval (den T root)) i
    high_by_words i h = high_is i h ∙ sym (high_words (n - 1) n events (chance_in A) is_done.1.each (den T root) i h fits)

  -- THE RESTRICTED FUNCTIONS, of any diagram: f and s are any ordered diagrams of the function with the event failed, and sound
  pub restricted : (i : ℕ) → i < n → stands i (den T root) ≡ true → (f s : Diagram) → Ordered 0 n f → Ordered 0 n s
      → eval f ≡ fix_f i true (eval (den T root)) → eval s ≡ fix_f i false (eval (den T root))
      → (get_or L' i 0 ≡ low billion (chance_in A) f - high billion (chance_in A) s) × (get_or H' i 0 ≡ high billion (chance_in A) f - low billion (chance_in A) s)
  unfolding low_of high_of
  restricted i h st f s of os ef es =
      let ordered = root_ordered is_done.0 in
      let each = is_done.1.each in (
        low_is i h ∙ rw st (ap₂ (λ x y. x - y) (sym (restricted_low billion n (chance_in A) (omega arith) each (den T root) f ordered of i true ef))
            (sym (restricted_high billion n (chance_in A) (omega arith) each (den T root) s ordered os i false es))),
        high_is i h ∙ rw st (ap₂ (λ x y. x - y) (sym (restricted_high billion n (chance_in A) (omega arith) each (den T root) f ordered of i true ef))
            (sym (restricted_low billion n (chance_in A) (omega arith) each (den T root) s ordered os i false es))),
      )

  -- AN EVENT THAT STANDS NOWHERE gets 0 twice
  pub none : (i : ℕ) → i < n → stands i (den T root) ≡ false → (get_or L' i 0 ≡ 0) × (get_or H' i 0 ≡ 0)
  unfolding low_of high_of
  none i h st = (low_is i h ∙ rw st, high_is i h ∙ rw st)

  -- THE RANKING ranks the events by the low numbers that stand in the result, and whatever ranks them is it
  pub rank_stored : firsts n R' ≡ ranking (low_in T root A) n 0
  unfolding rank_at
  rank_stored = ext_get_or 0 (firsts n R') (ranking (low_in T root A) n 0) (up_length (λ p. get_or R' p 0) n 0 ∙ sym (length_ranking (low_in T root A) n 0))
      (λ p l. let e = up_length (λ p. get_or R' p 0) n 0 in let b : p < n = omega arith in
      up_at (λ p. get_or R' p 0) n 0 p b ∙ (let z : 0 + p ≡ p = omega arith in ap (λ p. get_or R' p 0) z) ∙ is_done.2.rank.each p b)

  pub ranked : Ranks (low_in T root A) n (firsts n R')
  ranked = subst (Ranks (low_in T root A) n) (sym rank_stored) (rank_law (low_in T root A) n)

  pub ranked_only : (l : List ℕ) → Ranks (low_in T root A) n l → l ≡ firsts n R'
  ranked_only l r = rank_unique (low_in T root A) n l r ∙ sym rank_stored
