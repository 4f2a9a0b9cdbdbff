-- A pass over the list: every number that the root reaches gets its value, its count of one size or its largest size.
-- Assumes nothing.
use mathlib.Core.Path.{◌≡◌, refl, sym, ap, ap₂, ◌∙◌, subst}
use mathlib.Core.Logic.{◌⊎◌, inl, inr}
use mathlib.Core.Bool.{true, false}
use Rattle.std.specs.Prelude.{Option, Some, None}
use mathlib.Core.List.{List}
use Prim.Native.Nat.{ℕ, zero, suc, ◌+◌, ◌≤◌, ◌<◌, max}
use native.Mathlib.Decide.{ℕ_discrete}
use native.Mathlib.Omega.{arith}
use lib.ListN.{length, get_or, set, length-set}
use lib.Seq.{get_or-set_same, get_or-set_other}
use Rattle.paper.specs.Diagrams.{node}
use Rattle.paper.specs.Sizes.{largest, sizes}
use Rattle.tables.specs.Table.{event_of, failed_of, sound_of, den}
use Rattle.tables.proofs.Den.{den_0, den_1, den_node}
use Rattle.store.proofs.Denotes.{below_or_not}
use Rattle.without.specs.Reading.{Held}
use Rattle.cuts.specs.Reach.{Reached, here, failed, sound}
use Rattle.cuts.proofs.Marks.{held_low, failed_below, sound_below, reached_low}
use Rattle.sizes.specs.Recursion.{lowered, single, sized, deepest}
use Rattle.sizes.specs.Reach.{Listed}
use Rattle.sizes.specs.Passes.{Valued, Passing, Before, Over, Passed, Adds}
use Rattle.sizes.proofs.Counts.{lowered_next, sized_node, sized_leaf, single_small, failed_le, sound_le, deepest_leaf, deepest_node}
use Rattle.sizes.proofs.Reaching.{earlier}

-- ---- values of any kind

pub valued_start : (g : ℕ → ℕ) (R W : List ℕ) (a b : ℕ) → 2 ≤ length W → a ≡ g 0 → b ≡ g 1 → Valued g R (set (set W 0 a) 1 b) 0
valued_start g R W a b l p q = record { leaf = low; node = λ i h. absurd (omega arith) }
  where
    low : (j : ℕ) → j < 2 → get_or (set (set W 0 a) 1 b) j 0 ≡ g j
    low zero h = get_or-set_other (set W 0 a) 1 0 b 0 (λ z. omega (arith, z)) ∙ get_or-set_same W 0 a 0 (omega arith) ∙ p
    low (suc zero) h = get_or-set_same (set W 0 a) 1 b 0 (simp length-set (omega arith)) ∙ q
    low (suc (suc j)) h = absurd (omega arith)

module _ {T : List ℕ} {root : ℕ} {R : List ℕ} {m : ℕ} (ls : Listed T root R m) {g : ℕ → ℕ} {W : List ℕ} {p : ℕ} (v : Valued g R W p) where
  -- the value of what is reached below the next node
  pub valued_below : p < m → (j : ℕ) → Reached T root j → j < get_or R p 0 → get_or W j 0 ≡ g j
  valued_below l j r b = go (below_or_not j 2)
    where
      go : (j < 2) ⊎ (2 ≤ j) → get_or W j 0 ≡ g j
      go (inl h) = v.leaf j h
      go (inr h) =
          let w = ls.all j r h in
          let e = w.is in
          let a = earlier ls p w.at l w.within (omega arith) in
          subst (λ x. get_or W x 0 ≡ g x) e (v.node w.at a)

  -- one node more
  pub valued_more : {i x : ℕ} → p < m → i ≡ get_or R p 0 → i < length W → x ≡ g i → Valued g R (set W i x) (p + 1)
  valued_more {i} {x} l e b q = record { leaf = low; node = λ k h. high k h (ℕ_discrete k p) }
    where
      low : (j : ℕ) → j < 2 → get_or (set W i x) j 0 ≡ g j
      low j h = let two = ls.node p l in get_or-set_other W i j x 0 (λ z. omega (arith, z, h, two, e)) ∙ v.leaf j h

      high : (k : ℕ) → k < p + 1 → Dec (k ≡ p) → get_or (set W i x) (get_or R k 0) 0 ≡ g (get_or R k 0)
      high k h (yes z) = let s : i ≡ get_or R k 0 = e ∙ ap (λ y. get_or R y 0) (sym z) in subst (λ y. get_or (set W i x) y 0 ≡ g y) s (get_or-set_same W i x 0 b ∙ q)
      high k h (no z) = let u = ls.rising k p (omega arith) l in get_or-set_other W i (get_or R k 0) x 0 (λ y. omega (arith, y, u, e)) ∙ v.node k (omega arith)

  -- at the list's end
  pub valued_all : m ≤ p → (j : ℕ) → Reached T root j → get_or W j 0 ≡ g j
  valued_all l j r = go (below_or_not j 2)
    where
      go : (j < 2) ⊎ (2 ≤ j) → get_or W j 0 ≡ g j
      go (inl h) = v.leaf j h
      go (inr h) = let w = ls.all j r h in let a = w.within in subst (λ x. get_or W x 0 ≡ g x) w.is (v.node w.at (omega arith))

-- ---- a node of the list

module _ {T : List ℕ} {root : ℕ} (held : Held T root) where
  node_at : (j : ℕ) → 2 ≤ j → j ≤ root → den T j ≡ node (event_of T j) (den T (failed_of T j)) (den T (sound_of T j))
  node_at j a l = let w = held.within in den_node held.lower j a (omega arith)

  -- its count by those of its branches
  count_at : (j k : ℕ) → 2 ≤ j → j ≤ root → sized (den T j) k ≡ lowered (sized (den T (failed_of T j))) k + sized (den T (sound_of T j)) k
  count_at j k a l = ap (λ d. sized d k) (node_at j a l) ∙ sized_node (event_of T j) (den T (failed_of T j)) (den T (sound_of T j)) k

  -- its largest size by those of its branches
  deep_at : (j : ℕ) → 2 ≤ j → j ≤ root → deepest (den T j) ≡ max (deepest (den T (failed_of T j)) + 1) (deepest (den T (sound_of T j)))
  deep_at j a l = ap deepest (node_at j a l) ∙ deepest_node (event_of T j) (den T (failed_of T j)) (den T (sound_of T j))

  -- the root's is the largest
  deep_below : {j : ℕ} → Reached T root j → deepest (den T j) ≤ deepest (den T root)
  deep_below here = omega arith
  deep_below (failed j r a) = let e = deep_at j a (reached_low held r) in let h = deep_below r in omega (arith, e, h)
  deep_below (sound j r a) = let e = deep_at j a (reached_low held r) in let h = deep_below r in omega (arith, e, h)

-- ---- counts of a reached number never exceed the root's

record Under (T : List ℕ) (root j : ℕ) : Type 0 where
  steps : ℕ
  bound : (k : ℕ) → sized (den T j) k ≤ sized (den T root) (k + steps)

module _ {T : List ℕ} {root : ℕ} (held : Held T root) where
  -- THE BOUND: a set of k members below a number reached by some failed branches is a set of the root with as many members more
  under : {j : ℕ} → Reached T root j → Under T root j
  under here = record { steps = 0; bound = λ k. let q : k ≡ k + 0 = omega arith in subst (λ x. sized (den T root) k ≤ sized (den T root) x) q (omega arith) }
  under (failed j r a) =
      let u = under r in
      record {
        steps = 1 + u.steps;
        bound = λ k.
            let p : sized (den T (failed_of T j)) k ≤ sized (den T j) (k + 1) =
            subst (λ d. sized (den T (failed_of T j)) k ≤ sized d (k + 1)) (sym (node_at held j a (reached_low held r))) (failed_le (event_of T j) (den T (failed_of T j)) (den T (sound_of T j)) k) in
            let b = u.bound (k + 1) in
            let q : k + 1 + u.steps ≡ k + (1 + u.steps) = omega arith in
            subst (λ x. sized (den T (failed_of T j)) k ≤ sized (den T root) x) q (omega (arith, p, b));
      }
  under (sound j r a) =
      let u = under r in
      record {
        steps = u.steps;
        bound = λ k.
            let p : sized (den T (sound_of T j)) k ≤ sized (den T j) k =
            subst (λ d. sized (den T (sound_of T j)) k ≤ sized d k) (sym (node_at held j a (reached_low held r))) (sound_le (event_of T j) (den T (failed_of T j)) (den T (sound_of T j)) k) in
            let b = u.bound k in
            omega (arith, p, b);
      }

  over_at : {j : ℕ} (k : ℕ) → Reached T root j → largest < sized (den T j) k → Over (den T root)
  over_at k r h = let u = under r in let b = u.bound k in record { size = k + u.steps; large = omega (arith, b, h) }

-- ---- the pass for one size

pub passing_start : (T R W : List ℕ) (k v : ℕ) → 2 ≤ length W → v ≡ single k → Passing T R k (set (set W 0 0) 1 v) 0
passing_start T R W k v l q = record {
  values = valued_start (λ j. sized (den T j) k) R W 0 v l (sym (ap (λ d. sized d k) (den_0 T) ∙ sized_leaf false k)) (q ∙ sym (ap (λ d. sized d k) (den_1 T) ∙ sized_leaf true k));
  small = λ q h. absurd (omega arith);
}

-- node i is the next of the list
module _ {T : List ℕ} {root : ℕ} {R : List ℕ} {m p i : ℕ} (held : Held T root) (ls : Listed T root R m) (l : p < m) (e : i ≡ get_or R p 0) where
  pub turn_two : 2 ≤ i
  turn_two = let h = ls.node p l in omega (arith, h, e)

  pub turn_reached : Reached T root i
  turn_reached = subst (Reached T root) (sym e) (ls.reached p l)

  pub turn_low : i ≤ root
  turn_low = reached_low held turn_reached

  -- f and s are its branches
  module _ {f s : ℕ} (qf : f ≡ failed_of T i) (qs : s ≡ sound_of T i) where
    pub turn_failed : f < i
    turn_failed = subst (λ x. x < i) (sym qf) (failed_below (held_low held turn_low) turn_two)

    pub turn_sound : s < i
    turn_sound = subst (λ x. x < i) (sym qs) (sound_below (held_low held turn_low) turn_two)

    reached_f : Reached T root f
    reached_f = subst (Reached T root) (sym qf) (failed i turn_reached turn_two)

    reached_s : Reached T root s
    reached_s = subst (Reached T root) (sym qs) (sound i turn_reached turn_two)

    sound_value : {g : ℕ → ℕ} {W : List ℕ} → Valued g R W p → get_or W s 0 ≡ g s
    sound_value v = let h = turn_sound in valued_below ls v l s reached_s (omega (arith, h, e))

    failed_value : {g : ℕ → ℕ} {W : List ℕ} → Valued g R W p → get_or W f 0 ≡ g f
    failed_value v = let h = turn_failed in valued_below ls v l f reached_f (omega (arith, h, e))

    -- ---- the largest size

    pub deep_small : {W : List ℕ} → Valued (λ j. deepest (den T j)) R W p → deepest (den T root) < sizes → get_or W f 0 < sizes
    deep_small v b = let h = failed_value v in let g = deep_below held reached_f in omega (arith, h, g, b)

    pub deep_step : {W : List ℕ} {x y z : ℕ} → Valued (λ j. deepest (den T j)) R W p → i < length W → x ≡ get_or W f 0 + 1 → y ≡ get_or W s 0 → z ≡ max x y
        → Valued (λ j. deepest (den T j)) R (set W i z) (p + 1)
    deep_step {W} {x} {y} {z} v b qx qy qz = valued_more ls v l e b value
      where
        value : z ≡ deepest (den T i)
        value =
            qz ∙ ap₂ max (qx ∙ ap (λ a. a + 1) (failed_value v ∙ ap (λ j. deepest (den T j)) qf)) (qy ∙ sound_value v ∙ ap (λ j. deepest (den T j)) qs)
            ∙ sym (deep_at held i turn_two turn_low)

    -- ---- the count

    module _ {k : ℕ} {B W : List ℕ} {r : Option (Unit {0})} {W' : List ℕ} (before : Before T root k B) (pass : Passing T R k W p) (adds : Adds B W i f s r W') where
      -- the sum is the node's count
      sum_is : get_or B f 0 + get_or W s 0 ≡ sized (den T i) k
      sum_is =
          ap₂ ◌+◌ (before.at f reached_f ∙ ap (λ j. lowered (sized (den T j)) k) qf) (sound_value pass.values ∙ ap (λ j. sized (den T j) k) qs)
          ∙ sym (count_at held i k turn_two turn_low)

      pub passing_over : r ≡ None → Over (den T root)
      passing_over q = over_at held k turn_reached (subst (λ a. largest < a) sum_is (adds.above q))

      pub passing_step : r ≡ Some tt → i < length W → Passing T R k W' (p + 1)
      passing_step q b = let w = adds.stored q in subst (λ x. Passing T R k x (p + 1)) (sym w.0) (record {
        values = valued_more ls pass.values l e b sum_is;
        small = λ j h. few j h (ℕ_discrete j p) (subst (λ a. a ≤ largest) sum_is w.1);
      })
        where
          few : (j : ℕ) → j < p + 1 → Dec (j ≡ p) → sized (den T i) k ≤ largest → sized (den T (get_or R j 0)) k ≤ largest
          few j h (yes z) c = subst (λ x. sized (den T x) k ≤ largest) (e ∙ ap (λ y. get_or R y 0) (sym z)) c
          few j h (no z) c = pass.small j (omega arith)

-- ---- the end

pub deep_start : (T R W : List ℕ) → 2 ≤ length W → Valued (λ j. deepest (den T j)) R (set (set W 0 0) 1 0) 0
deep_start T R W l = valued_start (λ j. deepest (den T j)) R W 0 0 l (sym (ap deepest (den_0 T) ∙ deepest_leaf false)) (sym (ap deepest (den_1 T) ∙ deepest_leaf true))

pub deep_end : {T : List ℕ} {root : ℕ} {R W : List ℕ} {m p : ℕ} → Listed T root R m → Valued (λ j. deepest (den T j)) R W p → m ≤ p → get_or W root 0 ≡ deepest (den T root)
deep_end {T} {root} ls v l = valued_all ls v l root here

pub passing_end : {T : List ℕ} {root : ℕ} {R : List ℕ} {m k : ℕ} {W : List ℕ} {p : ℕ} → Listed T root R m → Passing T R k W p → m ≤ p → Before T root (k + 1) W
passing_end {T} {root} {R} {m} {k} {W} {p} ls pass l = record {
  at = λ j r. valued_all ls pass.values l j r ∙ sym (lowered_next (sized (den T j)) k);
  small = λ j r. subst (λ a. a ≤ largest) (sym (lowered_next (sized (den T j)) k)) (few j r (below_or_not j 2));
}
  where
    low : (j : ℕ) → j < 2 → sized (den T j) k ≤ largest
    low zero h = let e : sized (den T 0) k ≡ 0 = ap (λ d. sized d k) (den_0 T) ∙ sized_leaf false k in omega arith
    low (suc zero) h = let e : sized (den T 1) k ≡ single k = ap (λ d. sized d k) (den_1 T) ∙ sized_leaf true k in let b = single_small k in omega arith
    low (suc (suc j)) h = absurd (omega arith)

    few : (j : ℕ) → Reached T root j → (j < 2) ⊎ (2 ≤ j) → sized (den T j) k ≤ largest
    few j r (inl h) = low j h
    few j r (inr h) = let w = ls.all j r h in let a = w.within in subst (λ x. sized (den T x) k ≤ largest) w.is (pass.small w.at (omega arith))

pub passed_fits : {T : List ℕ} {root k : ℕ} {W : List ℕ} → Before T root (k + 1) W → Passed T root k W (Some tt)
passed_fits b = record { fits = λ _. b; over = λ q. cc }

pub passed_over : {T : List ℕ} {root k : ℕ} {W : List ℕ} → Over (den T root) → Passed T root k W None
passed_over b = record { fits = λ q. cc; over = λ _. b }

-- ---- one sum

pub adds_over : {B W : List ℕ} {i f s : ℕ} → largest < get_or B f 0 + get_or W s 0 → Adds B W i f s None W
adds_over l = record { stored = λ q. cc; above = λ q. l }

pub adds_sum : {B W : List ℕ} {i f s : ℕ} → get_or B f 0 + get_or W s 0 ≤ largest → Adds B W i f s (Some tt) (set W i (get_or B f 0 + get_or W s 0))
adds_sum l = record { stored = λ q. (refl, l); above = λ q. cc }

-- two stores leave the length
pub length_two : (W : List ℕ) (i a j b : ℕ) → length (set (set W i a) j b) ≡ length W
length_two W i a j b = length-set (set W i a) j b ∙ length-set W i a
