-- The row of at-least: one input after the other, from the last to the first, j falling.
-- Assumes nothing.
use mathlib.Core.Path.{◌≡◌, refl, sym, ap, ◌∙◌, subst}
use mathlib.Core.Logic.{◌⊎◌, inl, inr}
use mathlib.Core.Bool.{true, false}
use mathlib.Core.List.{List, [], ◌∷◌, ◌++◌}
use Prim.Native.Nat.{ℕ, zero, suc, ◌+◌, ◌-◌, ◌≤◌, ◌<◌}
use native.Mathlib.Omega.{arith}
use native.Mathlib.Numerals.{add-one}
use lib.ListN.{length, get_or, set, drop, length-drop, length-set}
use lib.Seq.{drop-cons, get_or-set_same, get_or-set_other, drop-length}
use Rattle.paper.specs.Lists.{In}
use Rattle.paper.specs.Limits.{limits}
use Rattle.paper.specs.Diagrams.{Diagram, leaf}
use Rattle.algebra.specs.Operations.{join_d}
use Rattle.tables.specs.Stored.{Lower}
use Rattle.store.specs.Store.{Grown}
use Rattle.store.specs.Building.{Found}
use Rattle.store.proofs.Denotes.{below_or_not, found_grown}
use Rattle.atleast.specs.Rules.{least_d, least_steps_d}
use Rattle.atleast.specs.Making.{All}
use Rattle.atleast.specs.AtLeast.{Pair, Reached}
use Rattle.atleast.proofs.AtLeast.{conj, pair, least_one, steps_one, least_few, steps_few, reached}
use Rattle.atleast.proofs.Making.{found_0, found_1, all_one, all_append, all_grown}

-- ---- one pair

pub pair_grown : {T T' : List ℕ} {c c' : ℕ} {xs : List Diagram} {j r : ℕ} → Lower T c → Grown T c T' c' → Pair T c xs j r → Pair T' c' xs j r
pair_grown low g p = record { here = found_grown low g p.here; all = all_grown low g p.all }

-- at-least 0, and of fewer than j, of whatever inputs
pair_none : {T : List ℕ} {c : ℕ} (xs : List Diagram) {r : ℕ} → Found T c (leaf true) r → Pair T c xs 0 r
pair_none xs f = record { here = f; all = all_one f }

pair_few : {T : List ℕ} {c : ℕ} (xs : List Diagram) (j : ℕ) {r : ℕ} → length xs < j → Found T c (leaf false) r → Pair T c xs j r
pair_few {T} {c} xs j {r} h f = record {
  here = subst (λ d. Found T c d r) (sym (least_few j xs h)) f;
  all = subst (All T c) (sym (steps_few j xs h)) (all_one f);
}

-- at-least j of one input more
pair_one : {T : List ℕ} {c : ℕ} (k : ℕ) (x : Diagram) (xs : List Diagram) {r q p s : ℕ} → k ≤ length xs
    → Found T c (pair k x xs) r → Found T c (conj k x xs) q → Pair T c xs k p → Pair T c xs (suc k) s → Pair T c (x ∷ xs) (suc k) r
pair_one {T} {c} k x xs {r} h f g a b = record {
  here = subst (λ d. Found T c d r) (sym (least_one k x xs h)) f;
  all = subst (All T c) (sym (steps_one k x xs h)) (all_append {ds = pair k x xs ∷ []} (all_one f) (all_append {ds = conj k x xs ∷ []} (all_one g) (all_append a.all b.all)));
}

-- ---- the row before the first input

pub reached_none : {T : List ℕ} {c k : ℕ} (ds : List Diagram) {R : List ℕ} → length R ≡ limits.inputs + 1 → get_or R 0 0 ≡ 1 → ((j : ℕ) → get_or R (suc j) 0 ≡ 0) → Reached T c k ds (length ds) R
reached_none {T} {c} {k} ds {R} long one zeros = record { long = long; pair = λ j _ _. subst (λ xs. Pair T c xs j (get_or R j 0)) (sym (drop-length ds)) (go j) }
  where
    go : (j : ℕ) → Pair T c [] j (get_or R j 0)
    go zero = pair_none [] (subst (λ r. Found T c (leaf true) r) (sym one) (found_1 T c))
    go (suc j) = pair_few [] (suc j) (omega arith) (subst (λ r. Found T c (leaf false) r) (sym (zeros j)) (found_0 T c))

-- ---- while input i is taken: the pairs above j are with it, those up to j without it

pub record Taking (T : List ℕ) (c k : ℕ) (ds : List Diagram) (i j : ℕ) (R : List ℕ) : Type 0 where
  pub long : length R ≡ limits.inputs + 1
  pub done : (m : ℕ) → j < m → k ≤ m + i → m ≤ k → Pair T c (drop i ds) m (get_or R m 0)
  pub left : (m : ℕ) → m ≤ j → k ≤ m + (i + 1) → m ≤ k → Pair T c (drop (i + 1) ds) m (get_or R m 0)

module _ {T : List ℕ} {c k : ℕ} {ds : List Diagram} {i : ℕ} {R : List ℕ} where
  -- above the highest pair all are constant
  pub taking_start : {high : ℕ} → (k ≤ high) ⊎ (length ds ≤ high + i) → Reached T c k ds (i + 1) R → Taking T c k ds i high R
  taking_start {high} top a = record { long = a.long; done = go top; left = λ m _ l h. a.pair m l h }
    where
      go : (k ≤ high) ⊎ (length ds ≤ high + i) → (m : ℕ) → high < m → k ≤ m + i → m ≤ k → Pair T c (drop i ds) m (get_or R m 0)
      go (inl t) m b l h = absurd (omega arith)
      go (inr t) m b l h =
          let f = (a.pair m (omega arith) h).here in
          let few : length (drop (i + 1) ds) < m = let e = length-drop (i + 1) ds in omega arith in
          let few' : length (drop i ds) < m = let e = length-drop i ds in omega arith in
          pair_few (drop i ds) m few' (subst (λ d. Found T c d (get_or R m 0)) (least_few m (drop (i + 1) ds) few) f)

  -- below the lowest pair none is reached, or at-least 0 is left
  pub taking_end : {j low : ℕ} → j < low → (low ≤ 1) ⊎ (low + i ≤ k) → Taking T c k ds i j R → Reached T c k ds i R
  taking_end {j} {low} under bottom a = record { long = a.long; pair = λ m l h. go m l h (below_or_not j m) bottom }
    where
      none : (m : ℕ) → m ≡ 0 → Pair T c (drop (i + 1) ds) m (get_or R m 0) → Pair T c (drop i ds) m (get_or R m 0)
      none zero e p = pair_none (drop i ds) p.here
      none (suc m) e p = absurd (omega arith)

      go : (m : ℕ) → k ≤ m + i → m ≤ k → (j < m) ⊎ (m ≤ j) → (low ≤ 1) ⊎ (low + i ≤ k) → Pair T c (drop i ds) m (get_or R m 0)
      go m l h (inl b) w = a.done m b l h
      go m l h (inr b) (inl w) = none m (omega arith) (a.left m b (omega arith) h)
      go m l h (inr b) (inr w) = absurd (omega arith)

-- ---- pair j of input i

-- a pair that the rule reaches from k: j is one of those for which a node is made at input i
pub record Due (k n i j : ℕ) : Type 0 where
  pub some : 1 ≤ j
  pub high : j ≤ k
  pub fits : j + i ≤ n
  pub low : k ≤ j + i

module _ {k : ℕ} (ds : List Diagram) {i j : ℕ} (due : Due k (length ds) i j) where
  front : drop i ds ≡ get_or ds i (leaf false) ∷ drop (i + 1) ds
  front = let l : i < length ds = let a = due.some in let b = due.fits in omega arith in
      drop-cons ds i (leaf false) l ∙ ap (λ m. get_or ds i (leaf false) ∷ drop m ds) (sym (add-one i))

  rest : j - 1 ≤ length (drop (i + 1) ds)
  rest = let e = length-drop (i + 1) ds in let a = due.some in let b = due.fits in omega arith

  back : suc (j - 1) ≡ j
  back = let a = due.some in omega arith

  -- its conjunction, and the pair
  abbrev pub both : Diagram
  both = join_d false (get_or ds i (leaf false)) (least_d (j - 1) (drop (i + 1) ds))

  abbrev pub whole : Diagram
  whole = join_d true both (least_d j (drop (i + 1) ds))

  is_pair : whole ≡ pair (j - 1) (get_or ds i (leaf false)) (drop (i + 1) ds)
  is_pair = ap (λ m. join_d true both (least_d m (drop (i + 1) ds))) (sym back)

  -- both are steps
  pub due_steps : (d : Diagram) → In d (both ∷ (whole ∷ [])) → In d (least_steps_d k ds)
  due_steps d h = reached d i k ds j due.some due.fits due.low due.high (subst (λ xs. In d (least_steps_d j xs)) (sym front)
      (subst (λ m. In d (least_steps_d m (get_or ds i (leaf false) ∷ drop (i + 1) ds))) back
      (rw (steps_one (j - 1) (get_or ds i (leaf false)) (drop (i + 1) ds) rest) (go h))))
    where
      go : In d (both ∷ (whole ∷ [])) → In d (pair (j - 1) (get_or ds i (leaf false)) (drop (i + 1) ds) ∷ (both ∷ (least_steps_d (j - 1) (drop (i + 1) ds) ++ least_steps_d (suc (j - 1)) (drop (i + 1) ds))))
      go (inl e) = inr (inl e)
      go (inr (inl e)) = inl (e ∙ is_pair)
      go (inr (inr h)) = absurd h

  module _ {T : List ℕ} {c : ℕ} {R : List ℕ} (a : Taking T c k ds i j R) where
    -- what its operands denote
    pub less_here : Found T c (least_d (j - 1) (drop (i + 1) ds)) (get_or R (j - 1) 0)
    less_here = let s = due.some in let l = due.low in let h = due.high in (a.left (j - 1) (omega arith) (omega arith) (omega arith)).here

    pub more_here : Found T c (least_d j (drop (i + 1) ds)) (get_or R j 0)
    more_here = let l = due.low in let h = due.high in (a.left j (omega arith) (omega arith) (omega arith)).here

    module _ (low : Lower T c) {T' : List ℕ} {c' r : ℕ} (grown : Grown T c T' c') (room : j ≤ limits.inputs) (f : Found T' c' whole r) (all : All T' c' (both ∷ (whole ∷ []))) where
      new : Pair T' c' (drop i ds) j r
      new =
          let s = due.some in let l = due.low in let h = due.high in
          let (q, g) = all.each both (inl refl) in
          let p = pair_grown low grown (a.left (j - 1) (omega arith) (omega arith) (omega arith)) in
          let m = pair_grown low grown (a.left j (omega arith) (omega arith) (omega arith)) in
          subst (λ xs. Pair T' c' xs j r) (sym front) (subst (λ m. Pair T' c' (get_or ds i (leaf false) ∷ drop (i + 1) ds) m r) back
          (pair_one (j - 1) (get_or ds i (leaf false)) (drop (i + 1) ds) rest (subst (λ d. Found T' c' d r) is_pair f) g p
          (subst (λ m. Pair T' c' (drop (i + 1) ds) m (get_or R j 0)) (sym back) m)))

      pub taking_next : Taking T' c' k ds i (j - 1) (set R j r)
      taking_next = record {
        long = length-set R j r ∙ a.long;
        done = λ m b l h. go m b l h (below_or_not j m);
        left = λ m b l h. let s = due.some in subst (Pair T' c' (drop (i + 1) ds) m) (sym (get_or-set_other R j m r 0 (omega arith))) (pair_grown low grown (a.left m (omega arith) l h));
      }
        where
          go : (m : ℕ) → j - 1 < m → k ≤ m + i → m ≤ k → (j < m) ⊎ (m ≤ j) → Pair T' c' (drop i ds) m (get_or (set R j r) m 0)
          go m b l h (inl u) = subst (Pair T' c' (drop i ds) m) (sym (get_or-set_other R j m r 0 (omega arith))) (pair_grown low grown (a.done m u l h))
          go m b l h (inr u) =
              let e : j ≡ m = omega arith in
              subst (λ m. Pair T' c' (drop i ds) m (get_or (set R j r) m 0)) e (subst (Pair T' c' (drop i ds) j) (sym (get_or-set_same R j r 0 (let z = a.long in omega arith))) new)
