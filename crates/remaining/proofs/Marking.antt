-- The search for the first set that misses K: each node's mark from those of its branches, and the way down by the marks.
-- Assumes nothing.
use mathlib.Core.Path.{◌≡◌, refl, sym, ap, ap₂, ◌∙◌, subst, fun_ext}
use mathlib.Core.Bool.{Bool, true, false, cond, not, ◌&&◌, ◌||◌, false≢true}
use mathlib.Core.List.{List}
use Prim.Native.Nat.{ℕ, zero, suc, ◌+◌, ◌/◌, ◌%◌, ◌^◌, ◌≤◌, ◌<◌}
use native.Mathlib.Decide.{ℕ_discrete}
use native.Mathlib.Omega.{arith}
use lib.Dec.{eqb}
use lib.ListN.{length, get_or, set, length-set}
use lib.Seq.{get_or-set_same, get_or-set_other}
use Rattle.paper.specs.Sets.{Set, none, put}
use Rattle.paper.specs.Diagrams.{node, Ordered}
use Rattle.sets.specs.Words.{bit, set_of}
use Rattle.tables.specs.Table.{event_of, failed_of, sound_of, den}
use Rattle.tables.proofs.Den.{den_0, den_1, den_node}
use Rattle.tables.proofs.Lent.{lent_lower, lent_node, root_ordered}
use Rattle.remaining.specs.Families.{CutDiagram}
use Rattle.remaining.specs.Recursion.{some_missing, first_in}
use Rattle.remaining.specs.Nodes.{Reads}
use Rattle.remaining.specs.Marking.{mark, Marked, both, Following}

-- ---- reading a node

pub at_number : {n : ℕ} {T : List ℕ} {c root : ℕ} → CutDiagram n T c root → {i : ℕ} → i < c + 2 → CutDiagram n T c i
at_number lent h = record {
  some_event = lent.some_event;
  few_events = lent.few_events;
  threes = lent.threes;
  short = lent.short;
  fits = lent.fits;
  nodes = lent.nodes;
  root_in = h;
}

pub reads : {n : ℕ} {T : List ℕ} {c i e f s : ℕ} → CutDiagram n T c i → 2 ≤ i → e ≡ event_of T i → f ≡ failed_of T i → s ≡ sound_of T i → Reads n T i e f s
reads {n} {T} {c} {i} {e} {f} {s} lent h p q r =
    let nd = lent_node lent h lent.root_in in
    let a = nd.event in
    let b = nd.failed in
    let d = nd.sound in
    let few = lent.few_events in
    let is : den T i ≡ node e (den T f) (den T s) = den_node (lent_lower lent) i h lent.root_in ∙ sym (ap₂ (λ x y. node (event_of T i) (den T x) (den T y)) q r)
    ∙ sym (ap (λ x. node x (den T f) (den T s)) p) in
    record {
      is = is;
      inside = omega (arith, a, p);
      few = omega (arith, a, p, few);
      failed = omega (arith, b, q);
      sound = omega (arith, d, r);
      above = (subst (Ordered 0 n) is (root_ordered lent)).2;
    }

-- an event of a set
pub member_bit : (ws : List ℕ) (e : ℕ) → eqb (get_or ws (e / 64) 0 / 2 ^ (e % 64) % 2) 1 ≡ set_of ws e
unfolding set_of bit
member_bit ws e = refl

-- ---- marks

mark_one : (b : Bool) → mark b ≡ 1 → b ≡ true
mark_one true h = refl
mark_one false h = absurd (omega arith)

pub mark_is : (b : Bool) → eqb (mark b) 1 ≡ b
mark_is true = refl
mark_is false = refl

some_0 : (T : List ℕ) (K : Set) → some_missing K (den T 0) ≡ false
unfolding some_missing
some_0 T K = ap (some_missing K) (den_0 T)

some_1 : (T : List ℕ) (K : Set) → some_missing K (den T 1) ≡ true
unfolding some_missing
some_1 T K = ap (some_missing K) (den_1 T)

some_node : {n : ℕ} {T : List ℕ} {i e f s : ℕ} (K : Set) → Reads n T i e f s → some_missing K (den T i) ≡ ((not (K e) && some_missing K (den T f)) || some_missing K (den T s))
unfolding some_missing
some_node K r = ap (some_missing K) r.is

first_node : {n : ℕ} {T : List ℕ} {i e f s : ℕ} (K : Set) → Reads n T i e f s
    → first_in K (den T i) ≡ cond (not (K e) && some_missing K (den T f)) (put e true (first_in K (den T f))) (first_in K (den T s))
unfolding first_in
first_node K r = ap (first_in K) r.is

-- ---- the pass upwards

pub marked_start : (T : List ℕ) (K : Set) (W : List ℕ) → 2 ≤ length W → Marked T K (set (set W 0 0) 1 1) 2
marked_start T K W h = record { at = go }
  where
    go : (j : ℕ) → j < 2 → get_or (set (set W 0 0) 1 1) j 0 ≡ mark (some_missing K (den T j))
    go zero l = get_or-set_other (set W 0 0) 1 0 1 0 (λ q. omega (arith, q)) ∙ get_or-set_same W 0 0 0 (omega arith) ∙ sym (ap mark (some_0 T K))
    go (suc zero) l = get_or-set_same (set W 0 0) 1 1 0 (let q = length-set W 0 0 in omega (arith, q)) ∙ sym (ap mark (some_1 T K))
    go (suc (suc j)) l = absurd (omega arith)

pub marked_step : {T : List ℕ} {K : Set} {W : List ℕ} {i v : ℕ} → Marked T K W i → i < length W → v ≡ mark (some_missing K (den T i)) → Marked T K (set W i v) (i + 1)
marked_step {T} {K} {W} {i} {v} m l q = record { at = λ j h. go j h (ℕ_discrete j i) }
  where
    go : (j : ℕ) → j < i + 1 → Dec (j ≡ i) → get_or (set W i v) j 0 ≡ mark (some_missing K (den T j))
    go j h (yes e) = ap (λ x. get_or (set W i v) x 0) e ∙ get_or-set_same W i v 0 l ∙ q ∙ ap (λ x. mark (some_missing K (den T x))) (sym e)
    go j h (no d) = get_or-set_other W i j v 0 d ∙ m.at j (omega arith)

pub length_two : (W : List ℕ) (a v b u : ℕ) → length (set (set W a v) b u) ≡ length W
length_two W a v b u = length-set (set W a v) b u ∙ length-set W a v

pub marked_end : {T : List ℕ} {K : Set} {W : List ℕ} {i j : ℕ} → Marked T K W i → j ≤ i → Marked T K W j
marked_end m l = record { at = λ k h. m.at k (omega arith) }

-- the test of the code
pub not_by : {h k : Bool} (x : Bool) → h ≡ k → h ≡ true → false ≡ (not k && x)
not_by x q t = sym (ap (λ b. not b && x) (sym q ∙ t))

pub then_by : {h k : Bool} (x : Bool) → h ≡ k → h ≡ false → x ≡ (not k && x)
then_by x q t = sym (ap (λ b. not b && x) (sym q ∙ t))

-- the way to the failed branch is open exactly if b says so
pub record ByFailed (T : List ℕ) (K : Set) (e f : ℕ) (b : Bool) : Type 0 where
  pub is : b ≡ (not (K e) && some_missing K (den T f))

pub by_failed : {n : ℕ} {T : List ℕ} {K : Set} {W : List ℕ} {i e f s : ℕ} {b : Bool} → Reads n T i e f s → Marked T K W i → b ≡ (not (K e) && eqb (get_or W f 0) 1) → ByFailed T K e f b
by_failed {n} {T} {K} {W} {i} {e} {f} {s} {b} r m q =
    record { is = q ∙ ap (λ x. not (K e) && x) (ap (λ x. eqb x 1) (m.at f r.failed) ∙ mark_is (some_missing K (den T f))) }

pub mark_failed : {n : ℕ} {T : List ℕ} {K : Set} {i e f s : ℕ} {b : Bool} → Reads n T i e f s → ByFailed T K e f b → b ≡ true → 1 ≡ mark (some_missing K (den T i))
mark_failed {n} {T} {K} {i} {e} {f} {s} {b} r w t = sym (ap mark (some_node K r ∙ ap (λ x. x || some_missing K (den T s)) (sym w.is ∙ t)))

pub mark_sound : {n : ℕ} {T : List ℕ} {K : Set} {W : List ℕ} {i e f s : ℕ} {b : Bool} → Reads n T i e f s → Marked T K W i → ByFailed T K e f b → b ≡ false
    → get_or W s 0 ≡ mark (some_missing K (den T i))
mark_sound {n} {T} {K} {W} {i} {e} {f} {s} {b} r m w t =
    m.at s r.sound ∙ sym (ap mark (some_node K r ∙ ap (λ x. x || some_missing K (den T s)) (sym w.is ∙ t)))

-- the root's mark
pub root_some : {T : List ℕ} {K : Set} {W : List ℕ} (root : ℕ) → Marked T K W (root + 1) → get_or W root 0 ≡ 1 → some_missing K (den T root) ≡ true
root_some {T} {K} {W} root m q = mark_one (some_missing K (den T root)) (sym (m.at root (omega arith)) ∙ q)

pub root_none : {T : List ℕ} {K : Set} {W : List ℕ} (root : ℕ) → Marked T K W (root + 1) → (get_or W root 0 ≡ 1 → ⊥) → some_missing K (den T root) ≡ false
root_none {T} {K} {W} root m q = go (some_missing K (den T root)) (m.at root (omega arith))
  where
    go : (b : Bool) → get_or W root 0 ≡ mark b → b ≡ false
    go true e = absurd (q e)
    go false e = refl

-- ---- the way down

both_put : (C S : Set) (e : ℕ) → both C (put e true S) ≡ both (put e true C) S
both_put C S e = fun_ext (λ i. go (eqb i e) (C i) (S i))
  where
    go : (b c s : Bool) → (c || cond b true s) ≡ (cond b true c || s)
    go true true s = refl
    go true false s = refl
    go false c s = refl

both_none : (C : Set) → both C none ≡ C
both_none C = fun_ext (λ i. go (C i))
  where
    go : (c : Bool) → (c || false) ≡ c
    go true = refl
    go false = refl

none_both : (S : Set) → both none S ≡ S
none_both S = refl

pub follow_start : {T : List ℕ} {K C : Set} {root : ℕ} → some_missing K (den T root) ≡ true → C ≡ none → Following T K root C root
follow_start {T} {K} {C} {root} t q = record { low = omega arith; some = t; is = sym (ap (λ x. both x (first_in K (den T root))) q) }

pub follow_failed : {n : ℕ} {T : List ℕ} {K C C' : Set} {root i e f s : ℕ} {b : Bool} → Following T K root C i → Reads n T i e f s → ByFailed T K e f b → b ≡ true
    → C' ≡ put e true C → Following T K root C' f
follow_failed {n} {T} {K} {C} {C'} {root} {i} {e} {f} {s} {b} g r w t q = record {
  low = let x = g.low in let y = r.failed in omega (arith, x, y);
  some = go (not (K e)) (sym w.is ∙ t);
  is = g.is ∙ ap (both C) (first_node K r ∙ ap (λ x. cond x (put e true (first_in K (den T f))) (first_in K (den T s))) (sym w.is ∙ t))
      ∙ both_put C (first_in K (den T f)) e ∙ ap (λ x. both x (first_in K (den T f))) (sym q);
}
  where
    go : (a : Bool) → (a && some_missing K (den T f)) ≡ true → some_missing K (den T f) ≡ true
    go true h = h
    go false h = absurd (false≢true h)

pub follow_sound : {n : ℕ} {T : List ℕ} {K C : Set} {root i e f s : ℕ} {b : Bool} → Following T K root C i → Reads n T i e f s → ByFailed T K e f b → b ≡ false → Following T K root C s
follow_sound {n} {T} {K} {C} {root} {i} {e} {f} {s} {b} g r w t = record {
  low = let x = g.low in let y = r.sound in omega (arith, x, y);
  some = sym (some_node K r ∙ ap (λ x. x || some_missing K (den T s)) (sym w.is ∙ t)) ∙ g.some;
  is = g.is ∙ ap (both C) (first_node K r ∙ ap (λ x. cond x (put e true (first_in K (den T f))) (first_in K (den T s))) (sym w.is ∙ t));
}

-- at leaf 1: leaf 0 has no set
pub follow_end : {T : List ℕ} {K C : Set} {root i : ℕ} → Following T K root C i → i < 2 → C ≡ first_in K (den T root)
unfolding first_in
follow_end {T} {K} {C} {root} {i} g h = go i refl h
  where
    go : (j : ℕ) → i ≡ j → j < 2 → C ≡ first_in K (den T root)
    go zero e l = absurd (false≢true (sym (some_0 T K) ∙ ap (λ x. some_missing K (den T x)) (sym e) ∙ g.some))
    go (suc zero) e l = sym (g.is ∙ ap (λ x. both C (first_in K (den T x))) e ∙ ap (λ x. both C (first_in K x)) (den_1 T) ∙ both_none C)
    go (suc (suc j)) e l = absurd (omega arith)
