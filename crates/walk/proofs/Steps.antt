-- One step down a failed branch, and one step back up: what is left stays the same.
-- Assumes nothing.
use mathlib.Core.Path.{◌≡◌, refl, sym, ap, ◌∙◌, subst}
use mathlib.Core.List.{List, []}
use Prim.Native.Nat.{ℕ, ◌+◌, ◌-◌, ◌≤◌, ◌<◌}
use native.Mathlib.Omega.{arith}
use lib.ListN.{get_or, set, take}
use Rattle.paper.specs.Sets.{Set}
use Rattle.paper.specs.Cuts.{sets_of}
use Rattle.tables.specs.Table.{event_of, failed_of, sound_of, den}
use Rattle.tables.specs.Lent.{Node}
use Rattle.tables.proofs.Lent.{lent_node}
use Rattle.walk.specs.Paths.{around, Climbs, Open, Carries, Spotted, Reached, Ended}
use Rattle.walk.proofs.Carry.{carries_zero}
use Rattle.walk.proofs.Paths.{around_snoc, around_none, rooted, sets_0, sets_1, sets_node, open_leaf, open_none, open_push, around_push, here, shorter, top}

-- ---- down

-- the sets l are those from node `at` down and those left by the path
pub record Down (n : ℕ) (T : List ℕ) (c : ℕ) (P : List ℕ) (d at : ℕ) (l : List Set) : Type 0 where
  pub path : Open n T c P d at
  pub some : 0 < at
  pub is : l ≡ around T (take d P) (sets_of (den T at))

pub down_start : {n : ℕ} {T : List ℕ} {c : ℕ} {P : List ℕ} {d at : ℕ} → Open n T c P d at → 0 < at → Down n T c P d at (around T (take d P) (sets_of (den T at)))
down_start o h = record { path = o; some = h; is = refl }

module _ {n : ℕ} {T : List ℕ} {c : ℕ} {P : List ℕ} {d at : ℕ} {l : List Set} (w : Down n T c P d at l) where
  -- the leaf 1 is reached
  pub down_end : at < 2 → Reached n T c P d l
  down_end h =
      let z = w.some in
      let one : at ≡ 1 = omega arith in
      record { path = open_leaf w.path; is = w.is ∙ ap (around T (take d P)) (ap (λ (k : ℕ). sets_of (den T k)) one ∙ sets_1 T) }

  module _ (two : 2 ≤ at) {f : ℕ} (q : f ≡ failed_of T at) where
    pub down_less : f < at
    down_less = let h = (here w.path two).failed in omega arith

    pub down_more : Down n T c (set P d at) (d + 1) f l
    down_more = record {
      path = open_push w.path two q;
      some = let z = (w.path.lent.nodes at two w.path.lent.root_in).1 in positive f (λ e. z (sym q ∙ e));
      is = w.is ∙ ap (around T (take d P)) (sets_node w.path.lent two) ∙ sym (around_push w.path two (sets_of (den T (failed_of T at))))
          ∙ ap (λ (k : ℕ). around T (take (d + 1) (set P d at)) (sets_of (den T k))) (sym q);
    }
      where
        positive : (x : ℕ) → (x ≡ 0 → ⊥) → 0 < x
        positive x h = omega arith

-- ---- up

-- the sets l are those left by the path
pub record Behind (n : ℕ) (T : List ℕ) (c : ℕ) (P : List ℕ) (d : ℕ) (l : List Set) : Type 0 where
  pub path : Open n T c P d 1
  pub is : l ≡ around T (take d P) []

pub up_start : {n : ℕ} {T : List ℕ} {c : ℕ} {P : List ℕ} {d : ℕ} → Open n T c P d 1 → Behind n T c P d (around T (take d P) [])
up_start o = record { path = o; is = refl }

module _ {n : ℕ} {T : List ℕ} {c : ℕ} {P : List ℕ} {d : ℕ} {l : List Set} (w : Behind n T c P d l) where
  pub up_end : d ≡ 0 → {ws : List ℕ} → Carries T P d ws → Ended n T c P ws l
  up_end z k = record {
    path = open_none w.path 1 (omega arith);
    carries = carries_zero w.path k z refl;
    none_left = w.is ∙ ap (λ (k : ℕ). around T (take k P) []) z ∙ around_none T [];
  }

  -- with the entry on top taken away, what its sound branch leads to is left besides
  module _ (some : 0 < d) {i b : ℕ} (qi : i ≡ get_or P (d - 1) 0) (qb : b ≡ sound_of T i) where
    abbrev up : Climbs T c 0 (take (d - 1) P) (event_of T i) × (2 ≤ i) × (i < c + 2) × (event_of T i < w.path.end)
    up = top w.path some qi

    up_open : Open n T c P (d - 1) b
    up_open =
        let nd : Node n T i = lent_node w.path.lent up.1 up.2 in
        let rise : 2 ≤ sound_of T i → event_of T i < event_of T (sound_of T i) = nd.sound_above in
        let s = nd.sound in
        let h = up.2 in
        let t = up.3 in
        let deep = w.path.deep in
        let low = w.path.low in
        record {
          lent = rooted w.path.lent b (omega arith);
          long = w.path.long;
          deep = omega arith;
          end = event_of T i;
          climbs = up.0;
          low = omega arith;
          above = subst (λ (y : ℕ). 2 ≤ y → event_of T i ≤ event_of T y) (sym qb) (λ h. let r = rise h in omega arith);
        }

    step : l ≡ around T (take (d - 1) P) (sets_of (den T b))
    step =
        w.is ∙ ap (λ (p : List ℕ). around T p []) (shorter w.path some qi) ∙ around_snoc T (take (d - 1) P) i []
        ∙ ap (λ (k : ℕ). around T (take (d - 1) P) (sets_of (den T k))) (sym qb)

    pub up_found : 0 < b → Spotted n T c P (d - 1) b l
    up_found h = record { path = up_open; some = h; is = step }

    pub up_more : b ≡ 0 → Behind n T c P (d - 1) l
    up_more z = record {
      path = open_leaf up_open;
      is = step ∙ ap (λ (k : ℕ). around T (take (d - 1) P) (sets_of (den T k))) z ∙ ap (around T (take (d - 1) P)) (sets_0 T);
    }

-- ---- the first cut from a node down

-- at node 0 no set is left
pub ended_zero : {n : ℕ} {T : List ℕ} {c : ℕ} {P ws : List ℕ} {at : ℕ} → Open n T c P 0 at → Carries T P 0 ws → at ≡ 0 → Ended n T c P ws (sets_of (den T at))
ended_zero {T = T} o k z = record { path = open_none o 1 (omega arith); carries = k; none_left = ap (λ (a : ℕ). sets_of (den T a)) z ∙ sets_0 T }

-- of the same sets
pub ended_as : {n : ℕ} {T : List ℕ} {c : ℕ} {P ws : List ℕ} {l m : List Set} → l ≡ m → Ended n T c P ws m → Ended n T c P ws l
ended_as e w = record { path = w.path; carries = w.carries; none_left = e ∙ w.none_left }

-- from a spot to the first cut from there
pub reached_from : {n : ℕ} {T : List ℕ} {c : ℕ} {P P' : List ℕ} {d at d' : ℕ} {l : List Set} → Spotted n T c P d at l
    → Reached n T c P' d' (around T (take d P) (sets_of (den T at))) → Reached n T c P' d' l
reached_from s r = record { path = r.path; is = s.is ∙ r.is }
