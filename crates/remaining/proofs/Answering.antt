-- The answers of both calls, from what their tests and passes showed.
-- Assumes nothing.
use mathlib.Core.Path.{◌≡◌, refl, sym, ap, ◌∙◌, subst}
use mathlib.Core.Bool.{Bool, true, false, true≢false}
use mathlib.Core.List.{List, []}
use Prim.Native.Nat.{ℕ, ◌+◌, ◌*◌, ◌≤◌, ◌<◌}
use native.Mathlib.Omega.{arith}
use lib.ListN.{length, get_or, replicate}
use Rattle.paper.specs.Limits.{limits}
use Rattle.paper.specs.Lists.{In}
use Rattle.paper.specs.Sets.{Set, Within}
use Rattle.paper.specs.Cuts.{sets_of}
use Rattle.paper.specs.Sizes.{largest}
use Rattle.paper.specs.Planner.{remaining, FirstMissing, holding}
use Rattle.paper.specs.Answers.{Beyond}
use Rattle.sets.specs.Words.{words, set_of, room, Lowest}
use Rattle.sets.proofs.Words.{beyond_room}
use Rattle.tables.specs.Table.{den}
use Rattle.tables.proofs.Lent.{root_ordered}
use Rattle.algebra.proofs.Without.{sets_beyond}
use Rattle.algebra.proofs.Base.{three, Three, below, beyond, equal}
use Rattle.remaining.specs.Families.{CutDiagram, family, Cleared}
use Rattle.remaining.specs.Recursion.{some_missing, first_in, count_holding}
use Rattle.remaining.specs.Counting.{Held, FirstOver, Written}
use Rattle.remaining.specs.FirstCut.{Room, Refused, Finds, Searched}
use Rattle.remaining.specs.Tallies.{Enough, TooMany, Unwritten, Summed, over, exact}
use Rattle.remaining.proofs.Missing.{Tells, first_law, holding_law}
use Rattle.remaining.proofs.Caps.{cap_exact, cap_over}

-- ---- what a caller knows of the family: its sets are sets of the n events, which are few

pub family_within : {n : ℕ} {T : List ℕ} {c root : ℕ} → CutDiagram n T c root → (S : Set) → In S (family T root) → Within n S
unfolding family
family_within {n} {T} {c} {root} lent S h = sets_beyond 0 n (den T root) S (root_ordered lent) h

pub some_event_lem : {n : ℕ} {T : List ℕ} {c root : ℕ} → CutDiagram n T c root → 1 ≤ n
some_event_lem lent = lent.some_event

pub few_events : {n : ℕ} {T : List ℕ} {c root : ℕ} → CutDiagram n T c root → n ≤ limits.events
few_events lent = lent.few_events

-- ---- 13

pub beyond_low : (ws : List ℕ) {n m r : ℕ} → Lowest (set_of ws) m n r → r < m → Beyond n (set_of ws)
beyond_low ws {n} {m} {r} l h = record { event = r; above = l.above h; is = l.is h }

pub not_beyond : (ws : List ℕ) {n r : ℕ} → Lowest (set_of ws) (room ws) n r → room ws ≤ r → Beyond n (set_of ws) → ⊥
not_beyond ws {n} {r} l h b = true≢false (sym b.is ∙ go (three b.event r))
  where
    go : Three b.event r → set_of ws b.event ≡ false
    go (below x _) = l.clear b.event b.above x
    go (beyond x _ _) = beyond_room ws b.event (omega (arith, h, x))
    go (equal x _ _) = beyond_room ws b.event (omega (arith, h, x))

-- ---- the search

pub room_root : {n : ℕ} {T : List ℕ} {c root : ℕ} (W : List ℕ) → CutDiagram n T c root → Room T W → (root < length W) × (2 ≤ length W)
room_root W lent h = let a = lent.fits in let b = lent.root_in in (omega (arith, a, b, h), omega (arith, h))

tells : {n : ℕ} {T : List ℕ} {c root : ℕ} (K : Set) → CutDiagram n T c root → (b : Bool) → some_missing K (den T root) ≡ b → Tells n K b (den T root)
tells {n} {T} {c} {root} K lent b q = subst (λ x. Tells n K x (den T root)) q (first_law n K 0 (den T root) (root_ordered lent))

pub none_missing : {n : ℕ} {T : List ℕ} {c root : ℕ} (K : Set) → CutDiagram n T c root → some_missing K (den T root) ≡ false → remaining n K (family T root) ≡ []
unfolding family
none_missing K lent q = tells K lent false q

pub some_missing_lem : {n : ℕ} {T : List ℕ} {c root : ℕ} (K : Set) {S : Set} → CutDiagram n T c root → some_missing K (den T root) ≡ true → S ≡ first_in K (den T root)
    → FirstMissing n K (family T root) S
unfolding family
some_missing_lem {n} {T} {c} {root} K {S} lent q e = subst (FirstMissing n K (sets_of (den T root))) (sym e) (tells K lent true q)

pub refused_now : {why : ℕ} {W : List ℕ} → Refused why why 0 false (replicate words 0) W W
refused_now = record { number_is = refl; no_place = refl; not_found = refl; empty_set = refl; area = refl }

pub searched_none : {n : ℕ} {T : List ℕ} {c root : ℕ} {K : Set} {W W' : List ℕ} → CutDiagram n T c root → some_missing K (den T root) ≡ false → Cleared W W'
    → Searched n K (family T root) 0 0 false (replicate words 0) W W'
searched_none {K = K} lent q z = record { number_is = refl; no_place = refl; long = refl; finds = (none_missing K lent q, refl); area = z }

-- ---- the counting

pub room_ways : {n : ℕ} {T : List ℕ} {c root : ℕ} {C B W : List ℕ} → CutDiagram n T c root → Enough n T C B W → (2 * root + 1 < length B) × (4 ≤ length B) × (2 * root + 1 < length W)
room_ways lent e =
    let a = lent.fits in
    let b = lent.root_in in
    let x = e.below in
    let y = e.ways in
    (omega (arith, a, b, x), omega (arith, x), omega (arith, a, b, y))

held_is : {n : ℕ} {T : List ℕ} {c root : ℕ} (K : Set) → CutDiagram n T c root → (e : ℕ) → count_holding K e (den T root) ≡ holding n K (family T root) e
unfolding family
held_is {n} {T} {c} {root} K lent e = holding_law n K 0 e (den T root) (root_ordered lent)

pub unwritten_now : {why : ℕ} {C B W : List ℕ} → Unwritten why why 0 C B W C B W
unwritten_now = record { number_is = refl; no_place = refl; counts = refl; below = refl; ways = refl }

module _ {n : ℕ} {T : List ℕ} {c root : ℕ} {K : Set} {H : List ℕ} (lent : CutDiagram n T c root) (held : Held T K root H) where
  -- 19: the number of this event was cut off
  pub over_of : {r : ℕ} → FirstOver H n r → r < n → TooMany n K (family T root)
  over_of {r} f h = record {
    event = r;
    inside = h;
    larger = subst (λ x. largest < x) (held_is K lent r) (cap_over (count_holding K r (den T root)) (get_or H (2 * r) 0) (get_or H (2 * r + 1) 0) (held.at r) (f.over h));
  }

  count_of : {C C' : List ℕ} {r : ℕ} → Written n C H C' → FirstOver H n r → n ≤ r → (e : ℕ) → e < n → holding n K (family T root) e ≡ get_or H (2 * e) 0
  count_of w f h e l =
      sym (held_is K lent e) ∙ cap_exact (count_holding K e (den T root)) (get_or H (2 * e) 0) (get_or H (2 * e + 1) 0) (held.at e) (f.exact e (omega (arith, h, l))) (w.small e l)

  pub summed_over : {r : ℕ} {C B W B' W' : List ℕ} → FirstOver H n r → r < n → Cleared B B' → Cleared W W' → Summed n K (family T root) 19 0 C B W C B' W'
  summed_over f h x y = over (over_of f h) (record { number_is = refl; no_place = refl; counts = refl; below = x; ways = y })

  pub summed_exact : {r : ℕ} {C B W C' B' W' : List ℕ} → FirstOver H n r → n ≤ r → Written n C H C' → Cleared B B' → Cleared W W' → Summed n K (family T root) 0 0 C B W C' B' W'
  summed_exact {r} f h w x y = exact
      (λ e l. subst (λ v. v ≤ largest) (sym (count_of w f h e l)) (w.small e l))
      (record {
        number_is = refl;
        no_place = refl;
        counts = λ e l. w.at e l ∙ sym (count_of w f h e l);
        behind = w.behind;
        long = w.long;
        below = x;
        ways = y;
      })

pub cleared_now : (W : List ℕ) {W' : List ℕ} {x : ℕ} → W' ≡ replicate x 0 → x ≡ length W → Cleared W W'
cleared_now W q p = q ∙ ap (λ k. replicate k 0) p
