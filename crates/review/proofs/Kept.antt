-- What is left at the end of a path, of the sets that pass a test: a part of the diagram without one is passed over.
-- Assumes nothing.
use mathlib.Core.Path.{◌≡◌, refl, sym, ap, ◌∙◌, subst}
use mathlib.Core.Logic.{◌⊎◌, inl, inr}
use mathlib.Core.Bool.{Bool, true, ◌||◌}
use mathlib.Core.List.{List, [], ◌∷◌, ◌++◌, map, append_assoc, append-nil, map-append as map-over}
use Prim.Native.Nat.{ℕ, suc, ◌+◌, ◌-◌, ◌≤◌, ◌<◌}
use native.Mathlib.Numerals.{add-one}
use native.Mathlib.Omega.{arith}
use lib.ListN.{length, take, set, length-set, get_or}
use lib.Seq.{take-suc-set, take-set-le}
use Rattle.paper.specs.Lists.{In, keep}
use Rattle.paper.specs.Sets.{Set, none, put, of_events}
use Rattle.paper.specs.Cuts.{sets_of}
use Rattle.algebra.specs.Reports.{over}
use Rattle.sets.specs.Words.{set_of}
use Rattle.algebra.proofs.Base.{put_same, put_other}
use Rattle.algebra.proofs.Lists.{in_append, map_in, keep_append, keep_none, map_append, map_map, map_same}
use Rattle.algebra.proofs.Sets.{not_true, set_ext}
use Rattle.algebra.proofs.Reports.{over_put, over_none}
use Rattle.tables.specs.Table.{event_of, failed_of, sound_of, den}
use Rattle.walk.specs.Paths.{events_of, along, around, Open, Spotted, Carries, Ended}
use Rattle.walk.proofs.Paths.{sets_0, sets_1, sets_node, rooted, open_leaf, open_push, open_pass, around_push, room_for, here}
use Rattle.walk.proofs.Carry.{events_more}
use Rattle.walk.proofs.Steps.{up_start, up_end, up_found, up_more, ended_as}
use Rattle.review.specs.Hopes.{Hope, Promising, Landed}
use Rattle.std.proofs.Common.{Option, Some, None}
use Rattle.std.specs.Prelude.{MatchOption}
use Rattle.walk.specs.declared.Spot.{Spot}
use Rattle.walk.specs.Follows.{Parts, Shorter}

-- ---- the sets from the path's end, and those behind

same_sets : (l : List Set) → map (over none) l ≡ l
same_sets [] = refl
same_sets (S ∷ l) = ap (S ∷◌) (same_sets l)

put_over : (e : ℕ) (Q U : Set) → put e true (over Q U) ≡ over (put e true Q) U
put_over e Q U = set_ext e (put e true (over Q U)) (over (put e true Q) U)
    (put_same e true (over Q U) ∙ sym (ap (λ b. b || U e) (put_same e true Q)))
    (λ i q. put_other e true (over Q U) i q ∙ sym (ap (λ b. b || U i) (put_other e true Q i q)))

around_split : (T p : List ℕ) (x : List Set) → around T p x ≡ map (over (along T p)) x ++ around T p []
unfolding around of_events
around_split T [] x = sym (append-nil (map (over none) x) ∙ same_sets x)
around_split T (i ∷ p) x =
    let e : ℕ = event_of T i in
    let Q : Set = along T p in
    let R : List Set = sets_of (den T (sound_of T i)) in
    ap (λ y. map (put e true) y ++ R) (around_split T p x)
    ∙ ap (λ y. y ++ R) (map_append (put e true) (map (over Q) x) (around T p []))
    ∙ append_assoc (map (put e true) (map (over Q) x)) (map (put e true) (around T p [])) R
    ∙ ap (λ y. y ++ (map (put e true) (around T p []) ++ R)) (sym (map_map (put e true) (over Q) x) ∙ map_same (λ U. put e true (over Q U)) (over (put e true Q)) x (λ U _. put_over e Q U))

module _ (R : Set → Bool) (T : List ℕ) where
  -- only what passes of the sets at the end counts
  kept_same : (p : List ℕ) (x y : List Set) → keep R (map (over (along T p)) x) ≡ keep R (map (over (along T p)) y) → keep R (around T p x) ≡ keep R (around T p y)
  kept_same p x y h =
      ap (keep R) (around_split T p x) ∙ keep_append R (map (over (along T p)) x) (around T p [])
      ∙ ap (λ l. l ++ keep R (around T p [])) h
      ∙ sym (ap (keep R) (around_split T p y) ∙ keep_append R (map (over (along T p)) y) (around T p []))

  no_hope : (Q : Set) (b : ℕ) → (Hope R T Q b → ⊥) → keep R (map (over Q) (sets_of (den T b))) ≡ []
  no_hope Q b h = keep_none R (map (over Q) (sets_of (den T b)))
      (λ S i. let (U, j, q) = map_in (over Q) S (sets_of (den T b)) i in ap R q ∙ not_true (R (over Q U)) (λ t. h (record { found = U; below = j; is = t })))

  -- PASSED OVER: a node below which no set passes
  pub passed_over : (p : List ℕ) (b : ℕ) → (Hope R T (along T p) b → ⊥) → keep R (around T p (sets_of (den T b))) ≡ keep R (around T p [])
  passed_over p b h = kept_same p (sets_of (den T b)) [] (no_hope (along T p) b h)

  no_set : (Q : Set) → Hope R T Q 0 → ⊥
  no_set Q h = subst (In h.found) (sets_0 T) h.below

  -- at the leaf 1 it is the path's own set
  own_set : (Q : Set) → Hope R T Q 1 → R Q ≡ true
  own_set Q h = go (subst (In h.found) (sets_1 T) h.below)
    where
      go : In h.found (none ∷ []) → R Q ≡ true
      go (inl q) = ap R (sym (ap (over Q) q ∙ over_none Q)) ∙ h.is
      go (inr i) = absurd i

-- ---- an array written behind the path

pub open_same : {n : ℕ} {T : List ℕ} {c : ℕ} {P P' : List ℕ} {d at : ℕ} → Open n T c P d at → take d P' ≡ take d P → length P' ≡ length P → Open n T c P' d at
open_same {T = T} {c = c} o e l =
    let a = o.long in
    let b = o.deep in
    record {
      lent = o.lent;
      long = omega arith;
      deep = omega arith;
      end = o.end;
      climbs = subst (λ p. Rattle.walk.specs.Paths.Climbs T c 0 p o.end) (sym e) o.climbs;
      low = o.low;
      above = o.above;
    }

pub carries_same : {T P P' : List ℕ} {d : ℕ} {ws : List ℕ} → Carries T P d ws → take d P' ≡ take d P → Carries T P' d ws
carries_same {T} k e = record { long = k.long; is = k.is ∙ ap (along T) (sym e) }

along_push : {n : ℕ} {T : List ℕ} {c : ℕ} {P : List ℕ} {d at : ℕ} → Open n T c P d at → 2 ≤ at → along T (take (d + 1) (set P d at)) ≡ put (event_of T at) true (along T (take d P))
along_push {T = T} {P = P} {d} {at} o two =
    ap (λ k. along T (take k (set P d at))) (add-one d) ∙ ap (along T) (take-suc-set P d at (room_for o two))
    ∙ ap of_events (map-over (event_of T) (take d P) (at ∷ [])) ∙ events_more (events_of T (take d P)) (event_of T at)

-- ---- up

-- what passes of l is what passes of the sets left by the path
pub record Rising (R : Set → Bool) (n : ℕ) (T : List ℕ) (c : ℕ) (P : List ℕ) (d : ℕ) (l : List Set) : Type 0 where
  pub path : Open n T c P d 1
  pub is : keep R l ≡ keep R (around T (take d P) [])

pub rising_start : (R : Set → Bool) {n : ℕ} {T : List ℕ} {c : ℕ} {P : List ℕ} {d : ℕ} → Open n T c P d 1 → Rising R n T c P d (around T (take d P) [])
rising_start R o = record { path = o; is = refl }

open_zero : {n : ℕ} {T : List ℕ} {c : ℕ} {P : List ℕ} {d : ℕ} → Open n T c P d 1 → Open n T c P d 0
open_zero o = record {
  lent = rooted o.lent 0 (omega arith);
  long = o.long;
  deep = o.deep;
  end = o.end;
  climbs = o.climbs;
  low = o.low;
  above = λ h. absurd (omega arith);
}

module _ {R : Set → Bool} {n : ℕ} {T : List ℕ} {c : ℕ} {P : List ℕ} {d : ℕ} {l : List Set} (w : Rising R n T c P d l) where
  pub rising_end : d ≡ 0 → {ws : List ℕ} → Carries T P d ws → Ended n T c P ws (keep R l)
  rising_end z k =
      let e = up_end (up_start w.path) z k in
      record { path = e.path; carries = e.carries; none_left = w.is ∙ ap (keep R) e.none_left }

  module _ (some : 0 < d) {i b : ℕ} (qi : i ≡ get_or P (d - 1) 0) (qb : b ≡ sound_of T i) where
    -- the entry on top taken away
    abbrev Popped : ℕ → Type 0
    Popped b = Open n T c P (d - 1) b × (around T (take d P) [] ≡ around T (take (d - 1) P) (sets_of (den T b)))

    popped : Popped b
    popped = go b refl
      where
        go : (x : ℕ) → b ≡ x → Popped b
        go Prim.Native.Nat.zero e =
            let u = up_more (up_start w.path) some qi qb e in
            subst Popped (sym e) (open_zero u.path, u.is ∙ ap (around T (take (d - 1) P)) (sym (sets_0 T)))
        go (suc x) e = let s = up_found (up_start w.path) some qi qb (omega arith) in (s.path, s.is)

    pub rising_open : Open n T c P (d - 1) b
    rising_open = popped.0

    pub rising_found : Hope R T (along T (take (d - 1) P)) b → Promising R n T c P (d - 1) b l
    rising_found h = record {
      path = popped.0;
      hope = h;
      is = w.is ∙ ap (keep R) popped.1;
    }

    pub rising_more : (Hope R T (along T (take (d - 1) P)) b → ⊥) → Rising R n T c P (d - 1) l
    rising_more h = record { path = open_leaf popped.0; is = w.is ∙ ap (keep R) popped.1 ∙ passed_over R T (take (d - 1) P) b h }

-- ---- down

-- what passes of l is what passes of the sets from node `at` down and of those left by the path; and some set below passes
pub record Sinking (R : Set → Bool) (n : ℕ) (T : List ℕ) (c : ℕ) (P : List ℕ) (d at : ℕ) (l : List Set) : Type 0 where
  pub path : Open n T c P d at
  pub hope : Hope R T (along T (take d P)) at
  pub is : keep R l ≡ keep R (around T (take d P) (sets_of (den T at)))

pub sinking_start : {R : Set → Bool} {n : ℕ} {T : List ℕ} {c : ℕ} {P : List ℕ} {d at : ℕ} → Open n T c P d at → Hope R T (along T (take d P)) at → Sinking R n T c P d at (around T (take d P) (sets_of (den T at)))
sinking_start o h = record { path = o; hope = h; is = refl }

module _ {R : Set → Bool} {n : ℕ} {T : List ℕ} {c : ℕ} {P : List ℕ} {d at : ℕ} {l : List Set} (w : Sinking R n T c P d at l) where
  -- the leaf 1 is reached
  pub sinking_end : at < 2 → Landed R n T c P d l
  sinking_end h = go at refl
    where
      Q : Set
      Q = along T (take d P)

      go : (x : ℕ) → at ≡ x → Landed R n T c P d l
      go Prim.Native.Nat.zero e = absurd (no_set R T (along T (take d P)) (subst (Hope R T (along T (take d P))) e w.hope))
      go (suc x) e =
          let one : at ≡ 1 = omega arith in
          record {
            path = open_leaf w.path;
            good = own_set R T (along T (take d P)) (subst (Hope R T (along T (take d P))) one w.hope);
            is = w.is ∙ ap (λ k. keep R (around T (take d P) (sets_of (den T k)))) one ∙ ap (λ x. keep R (around T (take d P) x)) (sets_1 T);
          }

  module _ (two : 2 ≤ at) where
    abbrev P⁺ : List ℕ
    P⁺ = set P d at

    pub untouched : take d P⁺ ≡ take d P
    untouched = take-set-le d P d at (omega arith)

    pub sinking_open : {f : ℕ} → f ≡ failed_of T at → Open n T c P⁺ (d + 1) f
    sinking_open q = open_push w.path two q

    -- down the failed branch, where there is hope
    pub sinking_failed : {f : ℕ} → f ≡ failed_of T at → Hope R T (along T (take (d + 1) P⁺)) f → Sinking R n T c P⁺ (d + 1) f l
    sinking_failed {f} q h = record {
      path = open_push w.path two q;
      hope = h;
      is = w.is ∙ ap (keep R) (ap (around T (take d P)) (sets_node w.path.lent two) ∙ sym (around_push w.path two (sets_of (den T (failed_of T at))))
          ∙ ap (λ k. around T (take (d + 1) P⁺) (sets_of (den T k))) (sym q));
    }

    -- past it where there is none
    module _ {f b : ℕ} (qf : f ≡ failed_of T at) (qb : b ≡ sound_of T at) (h : Hope R T (along T (take (d + 1) P⁺)) f → ⊥) where
      abbrev Q : Set
      Q = along T (take d P)

      abbrev e : ℕ
      e = event_of T at

      none_failed : Hope R T (put e true Q) (failed_of T at) → ⊥
      none_failed k = h (subst (λ S. Hope R T S f) (sym (along_push w.path two)) (subst (Hope R T (put e true Q)) (sym qf) k))

      dropped : keep R (map (over Q) (sets_of (den T at))) ≡ keep R (map (over Q) (sets_of (den T b)))
      dropped =
          let F : List Set = sets_of (den T (failed_of T at)) in
          let B : List Set = sets_of (den T (sound_of T at)) in
          ap (λ x. keep R (map (over Q) x)) (sets_node w.path.lent two)
          ∙ ap (keep R) (map_append (over Q) (map (put e true) F) B)
          ∙ keep_append R (map (over Q) (map (put e true) F)) (map (over Q) B)
          ∙ ap (λ y. y ++ keep R (map (over Q) B)) (ap (keep R) (sym (map_map (over Q) (put e true) F) ∙ map_same (λ U. over Q (put e true U)) (over (put e true Q)) F (λ U _. over_put Q U e)) ∙ no_hope R T (put e true Q) (failed_of T at) none_failed)
          ∙ ap (λ k. keep R (map (over Q) (sets_of (den T k)))) (sym qb)

      hope_left : Hope R T Q b
      hope_left = go (in_append w.hope.found (map (put e true) (sets_of (den T (failed_of T at)))) (sets_of (den T (sound_of T at))) (subst (In w.hope.found) (sets_node w.path.lent two) w.hope.below))
        where
          go : In w.hope.found (map (put e true) (sets_of (den T (failed_of T at)))) ⊎ In w.hope.found (sets_of (den T (sound_of T at))) → Hope R T Q b
          go (inl i) =
              let (U, j, q) = map_in (put e true) w.hope.found (sets_of (den T (failed_of T at))) i in
              absurd (none_failed (record { found = U; below = j; is = ap R (sym (ap (over Q) q ∙ over_put Q U e)) ∙ w.hope.is }))
          go (inr i) = record { found = w.hope.found; below = subst (λ k. In w.hope.found (sets_of (den T k))) (sym qb) i; is = w.hope.is }

      pub sinking_sound : Sinking R n T c P⁺ d b l
      sinking_sound = record {
        path = open_same (open_pass w.path two qb) untouched (length-set P d at);
        hope = subst (λ p. Hope R T (along T p) b) (sym untouched) hope_left;
        is = w.is ∙ kept_same R T (take d P) (sets_of (den T at)) (sets_of (den T b)) dropped ∙ ap (λ p. keep R (around T p (sets_of (den T b)))) (sym untouched);
      }

-- ---- from a spot on

-- the spot of a listing has hope, or what it leads to is passed over
module _ {R : Set → Bool} {n : ℕ} {T : List ℕ} {c : ℕ} {P : List ℕ} {d at : ℕ} {l : List Set} (s : Spotted n T c P d at l) where
  pub settle_here : Hope R T (along T (take d P)) at → Promising R n T c P d at l
  settle_here h = record { path = s.path; hope = h; is = ap (keep R) s.is }

  pub settle_up : (Hope R T (along T (take d P)) at → ⊥) → keep R l ≡ keep R (around T (take d P) [])
  settle_up h = ap (keep R) s.is ∙ passed_over R T (take d P) at h

-- what a climb answers, of what passes the same
pub climbed_kept : (R : Set → Bool) (n : ℕ) (T : List ℕ) (c : ℕ) (P ws : List ℕ) (l m : List Set) (S : Set) (o : Option Spot) → keep R l ≡ keep R m
    → MatchOption o (Ended n T c P ws (keep R m)) (λ p. Promising R n T c P p.depth p.node m × Carries T P p.depth ws × Parts n T (set_of ws) p.node p.low × Shorter S (set_of ws) p.low)
    → MatchOption o (Ended n T c P ws (keep R l)) (λ p. Promising R n T c P p.depth p.node l × Carries T P p.depth ws × Parts n T (set_of ws) p.node p.low)
climbed_kept R n T c P ws l m S None e h = ended_as e h
climbed_kept R n T c P ws l m S (Some p) e h = (record { path = h.0.path; hope = h.0.hope; is = e ∙ h.0.is }, h.1, h.2)

module _ {R : Set → Bool} {n : ℕ} {T : List ℕ} {c : ℕ} {P : List ℕ} {d at : ℕ} {l : List Set} (s : Promising R n T c P d at l) where
  pub landed_from : {P' : List ℕ} {d' : ℕ} → Landed R n T c P' d' (around T (take d P) (sets_of (den T at))) → Landed R n T c P' d' l
  landed_from r = record { path = r.path; good = r.good; is = s.is ∙ r.is }

-- a cut of the same sets
pub landed_as : {R : Set → Bool} {n : ℕ} {T : List ℕ} {c : ℕ} {P : List ℕ} {d : ℕ} {l m : List Set} → l ≡ m → Landed R n T c P d m → Landed R n T c P d l
landed_as {R} e r = record { path = r.path; good = r.good; is = ap (keep R) e ∙ r.is }

-- none is left, so none that passes
pub ended_kept : (R : Set → Bool) {n : ℕ} {T : List ℕ} {c : ℕ} {P ws : List ℕ} {l : List Set} → Ended n T c P ws l → Ended n T c P ws (keep R l)
ended_kept R w = record { path = w.path; carries = w.carries; none_left = ap (keep R) w.none_left }

-- the same spot, of what it leads to itself
pub spotted_self : {n : ℕ} {T : List ℕ} {c : ℕ} {P : List ℕ} {d at : ℕ} {l : List Set} → Spotted n T c P d at l → Spotted n T c P d at (around T (take d P) (sets_of (den T at)))
spotted_self s = record { path = s.path; some = s.some; is = refl }

-- an event above which there is none, past a node's failed branch
pub sound_up : {n : ℕ} {T : List ℕ} {c : ℕ} {P : List ℕ} {d at high b : ℕ} → Open n T c P d at → 2 ≤ at → (2 ≤ at → high ≤ event_of T at) → b ≡ sound_of T at → 2 ≤ b → high ≤ event_of T b
sound_up {T = T} {at = at} {high} o two up q = subst (λ y. 2 ≤ y → high ≤ event_of T y) (sym q) (λ h. let r = rise h in let a = up two in omega arith)
  where
    rise : 2 ≤ sound_of T at → event_of T at < event_of T (sound_of T at)
    rise = (here o two).sound_above
