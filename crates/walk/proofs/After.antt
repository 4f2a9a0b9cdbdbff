-- The walk from the root along a set: what comes after the set.
-- Assumes nothing.
use mathlib.Core.Path.{◌≡◌, refl, sym, ap, ap₂, ◌∙◌, subst, subst₂}
use mathlib.Core.Bool.{Bool, true, false}
use mathlib.Core.Logic.{◌⊎◌, inl, inr}
use mathlib.Core.List.{List, [], ◌∷◌, ◌++◌, map}
use Prim.Native.Nat.{ℕ, suc, ◌+◌, ◌-◌, ◌≤◌, ◌<◌}
use native.Mathlib.Omega.{arith}
use lib.ListN.{take, set}
use Rattle.paper.specs.Lists.{In, keep}
use Rattle.paper.specs.Sets.{Set, none, put}
use Rattle.paper.specs.Cuts.{sets_of}
use Rattle.paper.specs.Order.{behind, rest}
use Rattle.algebra.proofs.Base.{put_same, put_other}
use Rattle.algebra.proofs.Lists.{in_append, map_in, keep_same, keep_all, keep_none, keep_append, keep_map}
use Rattle.algebra.proofs.Without.{sets_above}
use Rattle.sets.specs.Words.{set_of, Lowest}
use Rattle.tables.specs.Table.{event_of, failed_of, sound_of, den}
use Rattle.std.proofs.Common.{Option, Some, None}
use Rattle.std.specs.Prelude.{MatchOption}
use Rattle.walk.specs.declared.Spot.{Spot}
use Rattle.walk.specs.Paths.{around, Open, Carries, Spotted, Reached, Ended}
use Rattle.walk.specs.Follows.{Parts, Shorter}
use Rattle.walk.proofs.Steps.{ended_as}
use Rattle.walk.specs.After.{to_list}
use Rattle.walk.proofs.Paths.{around_none, sets_0, sets_1, sets_node, branches, open_push, open_pass, around_push, here}
use Rattle.walk.proofs.Behind.{both_hold, both_lack, first_holds, second_holds, behind_same, behind_none}

-- where the walk is: at the end of the path, with the events below i dealt with
pub record At (n : ℕ) (T : List ℕ) (c : ℕ) (S : Set) (P : List ℕ) (d at i : ℕ) (l : List Set) : Type 0 where
  pub path : Open n T c P d at
  pub above : 2 ≤ at → i ≤ event_of T at
  pub low : i ≤ n
  pub is : l ≡ around T (take d P) (keep (behind (n - i) i S) (sets_of (den T at)))

pub walk_start : {n : ℕ} {T : List ℕ} {c : ℕ} {P : List ℕ} {root : ℕ} (S : Set) → Open n T c P 0 root → At n T c S P 0 root 0 (rest n S (sets_of (den T root)))
walk_start {n} {T} {root = root} S o =
    let e : n - 0 ≡ n = omega arith in
    record { path = o; above = λ h. omega arith; low = omega arith; is = sym (around_none T (keep (behind (n - 0) 0 S) (sets_of (den T root))) ∙ ap (λ (k : ℕ). keep (behind k 0 S) (sets_of (den T root))) e) }

-- one turn at a node with event e and branches f and b, where x is the set's lowest member from i on
pub record Turn (n : ℕ) (T : List ℕ) (c : ℕ) (S : Set) (P : List ℕ) (d at i : ℕ) (l : List Set) (x e f b : ℕ) : Type 0 where
  pub failed_less : f < at
  pub sound_less : b < at
  pub event_low : e < n
  pub stop : x < e → Spotted n T c P d at l
  pub sound : e < x → At n T c S P d b (e + 1) l
  pub failed : e ≤ x → x ≤ e → At n T c S (set P d at) (d + 1) f (e + 1) l

module _ {n : ℕ} {T : List ℕ} {c : ℕ} {S : Set} {P : List ℕ} {d at i : ℕ} {l : List Set} (w : At n T c S P d at i l) {m x : ℕ} (wide : n ≤ m) (lo : Lowest S m i x) where
  module _ (two : 2 ≤ at) where
    abbrev ev : ℕ
    ev = event_of T at

    abbrev fs : List Set
    fs = sets_of (den T (failed_of T at))

    abbrev bs : List Set
    bs = sets_of (den T (sound_of T at))

    ev_low : ev < n
    ev_low = (here w.path two).event

    -- a set of a branch holds no event up to the node's
    in_failed : (U : Set) → In U fs → (j : ℕ) → j ≤ ev → U j ≡ false
    in_failed U h j k = sets_above (suc ev) n (den T (failed_of T at)) U (branches w.path.lent two).0 h j (omega arith)

    in_sound : (U : Set) → In U bs → (j : ℕ) → j ≤ ev → U j ≡ false
    in_sound U h j k = sets_above (suc ev) n (den T (sound_of T at)) U (branches w.path.lent two).1 h j (omega arith)

    under : (U : Set) (j : ℕ) → j < ev → put ev true U j ≡ U j
    under U j h = put_other ev true U j (λ q. omega arith)

    -- what is left of the sets under the node's event, and of the others
    split : keep (behind (n - i) i S) (sets_of (den T at)) ≡ map (put ev true) (keep (λ (U : Set). behind (n - i) i S (put ev true U)) fs) ++ keep (behind (n - i) i S) bs
    split =
        ap (keep (behind (n - i) i S)) (sets_node w.path.lent two) ∙ keep_append (behind (n - i) i S) (map (put ev true) fs) bs
        ∙ ap (λ (y : List Set). y ++ keep (behind (n - i) i S) bs) (keep_map (put ev true) (behind (n - i) i S) fs)

    -- the set holds an event before the node's: every set of the node comes after it
    stop_before : x < ev → Spotted n T c P d at l
    stop_before h =
        let a = ev_low in
        let up = lo.above (omega arith) in
        let all : keep (behind (n - i) i S) (sets_of (den T at)) ≡ sets_of (den T at) = keep_all (behind (n - i) i S) (sets_of (den T at)) each in
        record { path = w.path; some = omega arith; is = w.is ∙ ap (around T (take d P)) all }
      where
        none_below : (U : Set) → In U (sets_of (den T at)) → (j : ℕ) → j < ev → U j ≡ false
        none_below U k j q = go (in_append U (map (put ev true) fs) bs (subst (In U) (sets_node w.path.lent two) k))
          where
            go : In U (map (put ev true) fs) ⊎ In U bs → U j ≡ false
            go (inl y) = let (R, z, e) = map_in (put ev true) U fs y in ap (λ (v : Set). v j) e ∙ under R j q ∙ in_failed R z j (omega arith)
            go (inr y) = in_sound U y j (omega arith)

        each : (U : Set) → In U (sets_of (den T at)) → behind (n - i) i S U ≡ true
        each U k =
            let a = ev_low in
            let up = lo.above (omega arith) in
            first_holds n i x S U up (omega arith) (λ j p q. lo.clear j p q ∙ sym (none_below U k j (omega arith))) (lo.is (omega arith)) (none_below U k x h)

    -- the set lacks the node's event: none under it comes after
    go_sound : ev < x → At n T c S P d (sound_of T at) (ev + 1) l
    go_sound h = record {
      path = open_pass w.path two refl;
      above = λ k. let r = (here w.path two).sound_above k in omega arith;
      low = let a = ev_low in omega arith;
      is = w.is ∙ ap (around T (take d P)) (split ∙ ap₂ (λ (y z : List Set). map (put ev true) y ++ z) (keep_none (λ (U : Set). behind (n - i) i S (put ev true U)) fs past) (keep_same (behind (n - i) i S) (behind (n - (ev + 1)) (ev + 1) S) bs on));
    }
      where
        le : i ≤ ev
        le = w.above two

        past : (U : Set) → In U fs → behind (n - i) i S (put ev true U) ≡ false
        past U k =
            let a = le in
            second_holds n i ev S (put ev true U) le ev_low (λ j p q. lo.clear j p (omega arith) ∙ sym (under U j q ∙ in_failed U k j (omega arith))) (lo.clear ev le h) (put_same ev true U)

        on : (U : Set) → In U bs → behind (n - i) i S U ≡ behind (n - (ev + 1)) (ev + 1) S U
        on U k = both_lack n i ev S U le ev_low (λ j p q. lo.clear j p (omega arith) ∙ sym (in_sound U k j (omega arith))) (lo.clear ev le h) (in_sound U k ev (omega arith))

    -- the set holds it: the sets without it come after
    go_failed : x ≡ ev → At n T c S (set P d at) (d + 1) (failed_of T at) (ev + 1) l
    go_failed q = record {
      path = open_push w.path two refl;
      above = λ k. let r = (here w.path two).failed_above k in omega arith;
      low = let a = ev_low in omega arith;
      is = w.is
          ∙ ap (around T (take d P)) (split ∙ ap₂ (λ (y z : List Set). map (put ev true) y ++ z) (keep_same (λ (U : Set). behind (n - i) i S (put ev true U)) (behind (n - (ev + 1)) (ev + 1) S) fs on) (keep_all (behind (n - i) i S) bs each))
          ∙ sym (around_push w.path two (keep (behind (n - (ev + 1)) (ev + 1) S) fs));
    }
      where
        le : i ≤ ev
        le = w.above two

        holds : S ev ≡ true
        holds = let a = ev_low in ap S (sym q) ∙ lo.is (omega arith)

        on : (U : Set) → In U fs → behind (n - i) i S (put ev true U) ≡ behind (n - (ev + 1)) (ev + 1) S U
        on U k =
            both_hold n i ev S (put ev true U) le ev_low (λ j p r. lo.clear j p (omega arith) ∙ sym (under U j r ∙ in_failed U k j (omega arith))) holds (put_same ev true U)
            ∙ behind_same (n - (ev + 1)) (ev + 1) S (put ev true U) U (λ j p. put_other ev true U j (λ z. omega arith))

        each : (U : Set) → In U bs → behind (n - i) i S U ≡ true
        each U k = first_holds n i ev S U le ev_low (λ j p r. lo.clear j p (omega arith) ∙ sym (in_sound U k j (omega arith))) holds (in_sound U k ev (omega arith))

    -- the same with the numbers that the code read
    pub turn : {e f b : ℕ} → e ≡ event_of T at → f ≡ failed_of T at → b ≡ sound_of T at → Turn n T c S P d at i l x e f b
    turn {e} {f} {b} qe qf qb =
        let u = (here w.path two).failed in
        let v = (here w.path two).sound in
        let z = ev_low in
        record {
          failed_less = omega arith;
          sound_less = omega arith;
          event_low = omega arith;
          stop = λ h. stop_before (omega arith);
          sound = λ h. subst₂ (λ (b e : ℕ). At n T c S P d b (e + 1) l) (sym qb) (sym qe) (go_sound (omega arith));
          failed = λ h k. subst₂ (λ (f e : ℕ). At n T c S (set P d at) (d + 1) f (e + 1) l) (sym qf) (sym qe) (go_failed (omega arith));
        }

  -- at the leaf 1 with members left: the set without them comes after it
  pub stop_one : at ≡ 1 → x < n → Spotted n T c P d at l
  stop_one q h =
      let up = lo.above (omega arith) in
      let comes : behind (n - i) i S none ≡ true = first_holds n i x S none up h (λ j p r. lo.clear j p r) (lo.is (omega arith)) refl in
      let one : sets_of (den T at) ≡ none ∷ [] = ap (λ (k : ℕ). sets_of (den T k)) q ∙ sets_1 T in
      let all : keep (behind (n - i) i S) (sets_of (den T at)) ≡ sets_of (den T at) = ap (keep (behind (n - i) i S)) one ∙ rw comes (sym one) in
      record { path = w.path; some = omega arith; is = w.is ∙ ap (around T (take d P)) all }

  -- with none left: what the path leaves
  pub stop_end : n ≤ x → l ≡ around T (take d P) []
  stop_end h =
      let lw = w.low in
      w.is ∙ ap (around T (take d P)) (keep_none (behind (n - i) i S) (sets_of (den T at)) (λ U k. behind_none (n - i) i S U (λ j p q. lo.clear j p (omega arith))))

-- at the leaf 0: what the path leaves
pub stop_zero : {n : ℕ} {T : List ℕ} {c : ℕ} {S : Set} {P : List ℕ} {d at i : ℕ} {l : List Set} → At n T c S P d at i l → at ≡ 0 → l ≡ around T (take d P) []
stop_zero {n} {T} {S = S} {P} {d} {i = i} w q = w.is ∙ ap (λ (k : ℕ). around T (take d P) (keep (behind (n - i) i S) (sets_of (den T k)))) q ∙ ap (λ (y : List Set). around T (take d P) (keep (behind (n - i) i S) y)) (sets_0 T)

-- a spot of the same sets
pub spotted_as : {n : ℕ} {T : List ℕ} {c : ℕ} {P : List ℕ} {d at : ℕ} {l m : List Set} → l ≡ m → Spotted n T c P d at m → Spotted n T c P d at l
spotted_as e s = record { path = s.path; some = s.some; is = e ∙ s.is }

-- what a climb answers, of the same sets
pub climbed_as : (n : ℕ) (T : List ℕ) (c : ℕ) (P ws : List ℕ) {l m : List Set} (S : Set) (o : Option Spot) → l ≡ m
    → MatchOption o (Ended n T c P ws m) (λ p. Spotted n T c P p.depth p.node m × Carries T P p.depth ws × Parts n T (set_of ws) p.node p.low × Shorter S (set_of ws) p.low)
    → MatchOption o (Ended n T c P ws l) (λ p. Spotted n T c P p.depth p.node l × Carries T P p.depth ws × Parts n T (set_of ws) p.node p.low)
climbed_as n T c P ws S None e h = ended_as e h
climbed_as n T c P ws S (Some p) e h = (spotted_as e h.0, h.1, h.2)

-- from the beginning a call has to list all the sets of the root
pub listed_all : (n : ℕ) (T : List ℕ) (root : ℕ) (begin : Bool) (ws : List ℕ) → begin ≡ true → to_list n (den T root) begin ws ≡ sets_of (den T root)
listed_all n T root begin ws e = ap (λ (b : Bool). to_list n (den T root) b ws) e

-- a cut of the same sets
pub reached_as : {n : ℕ} {T : List ℕ} {c : ℕ} {P : List ℕ} {d : ℕ} {l m : List Set} → l ≡ m → Reached n T c P d m → Reached n T c P d l
reached_as e r = record { path = r.path; is = e ∙ r.is }
