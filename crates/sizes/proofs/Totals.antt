-- The counts of all sizes: those above the largest do not occur.
-- Assumes nothing.
use mathlib.Core.Path.{◌≡◌, sym, ap, ◌∙◌, subst}
use mathlib.Core.Logic.{◌⊎◌, inl, inr}
use Rattle.std.specs.Prelude.{Option, Some, None}
use mathlib.Core.List.{List}
use Prim.Native.Nat.{ℕ, ◌+◌, ◌≤◌, ◌<◌}
use native.Mathlib.Decide.{ℕ_discrete}
use native.Mathlib.Omega.{arith}
use lib.ListN.{length, get_or, set, replicate, length-set, length-replicate}
use lib.Seq.{get_or-set_same, get_or-set_other}
use Rattle.paper.specs.Diagrams.{Diagram}
use Rattle.paper.specs.Sizes.{largest, sizes}
use Rattle.tables.specs.Table.{den}
use Rattle.store.proofs.Denotes.{below_or_not}
use Rattle.store.proofs.Zeros.{zero_at}
use Rattle.cuts.specs.Reach.{here}
use Rattle.sizes.specs.Recursion.{sized, deepest}
use Rattle.sizes.specs.Passes.{Before, Over, Totals, Whole, Totalled, totals_in}
use Rattle.sizes.proofs.Counts.{lowered_next, sized_above}

-- before any size: zeros
pub before_none : {T : List ℕ} {root : ℕ} {B : List ℕ} (m : ℕ) → B ≡ replicate m 0 → Before T root 0 B
before_none {T} {root} m q = record { at = λ j r. ap (λ x. get_or x j 0) q ∙ zero_at m j; small = λ j r. omega arith }

pub totals_none : (d : Diagram) → Totals d 0 (replicate sizes 0)
totals_none d = record { long = length-replicate {A = ℕ} sizes 0; below = λ j h. absurd (omega arith); small = λ j h. absurd (omega arith); behind = λ j h. zero_at sizes j }

-- one size more, read at the root
pub totals_more : {T : List ℕ} {root k v : ℕ} {W L : List ℕ} → Totals (den T root) k L → k < sizes → Before T root (k + 1) W → v ≡ get_or W root 0 → Totals (den T root) (k + 1) (set L k v)
totals_more {T} {root} {k} {v} {W} {L} t l b q = record {
  long = length-set L k v ∙ t.long;
  below = λ j h. one j h (ℕ_discrete j k);
  small = λ j h. low j h (ℕ_discrete j k);
  behind = λ j h. get_or-set_other L k j v 0 (λ z. omega (arith, z, h)) ∙ t.behind j (omega arith);
}
  where
    value : v ≡ sized (den T root) k
    value = q ∙ b.at root here ∙ lowered_next (sized (den T root)) k

    one : (j : ℕ) → j < k + 1 → Dec (j ≡ k) → get_or (set L k v) j 0 ≡ sized (den T root) j
    one j h (yes e) = ap (λ x. get_or (set L k v) x 0) e ∙ get_or-set_same L k v 0 (omega (arith, l, t.long)) ∙ value ∙ ap (sized (den T root)) (sym e)
    one j h (no n) = get_or-set_other L k j v 0 n ∙ t.below j (omega arith)

    low : (j : ℕ) → j < k + 1 → Dec (j ≡ k) → sized (den T root) j ≤ largest
    low j h (yes e) = subst (λ a. a ≤ largest) (lowered_next (sized (den T root)) k ∙ ap (sized (den T root)) (sym e)) (b.small root here)
    low j h (no n) = t.small j (omega arith)

-- nothing is left
whole : {d : Diagram} {k : ℕ} {L : List ℕ} → Totals d k L → ((j : ℕ) → k ≤ j → sized d j ≡ 0) → Whole d L
whole {d} {k} {L} t z = record {
  at = λ j. one j (below_or_not j k);
  small = λ j. low j (below_or_not j k);
}
  where
    one : (j : ℕ) → (j < k) ⊎ (k ≤ j) → get_or L j 0 ≡ sized d j
    one j (inl h) = t.below j h
    one j (inr h) = t.behind j h ∙ sym (z j h)

    low : (j : ℕ) → (j < k) ⊎ (k ≤ j) → sized d j ≤ largest
    low j (inl h) = t.small j h
    low j (inr h) = let e = z j h in omega arith

pub totals_end : {d : Diagram} {k : ℕ} {L : List ℕ} → deepest d < k → Totals d k L → Totalled d (Some L)
totals_end {d} {k} {L} l t = record {
  fits = λ M q. let e : L ≡ M = cc in subst (Whole d) e (whole t (λ j h. sized_above d j (omega arith)));
  long = λ M q. let e : L ≡ M = cc in ap length (sym e) ∙ t.long;
  over = λ q. cc;
}

pub totals_over : {d : Diagram} → Over d → Totalled d None
totals_over b = record { fits = λ M q. cc; long = λ M q. cc; over = λ _. b }

-- whether they fit is what the call answered
pub totals_fit : {d : Diagram} {r : Option (Unit {0})} {L : List ℕ} {u : Unit {0}} → Totalled d (totals_in r L) → r ≡ Some u → Whole d L × (length L ≡ sizes)
totals_fit {L = L} w e = let q = ap (λ x. totals_in x L) e in (w.fits L q, w.long L q)

pub totals_lack : {d : Diagram} {r : Option (Unit {0})} (L : List ℕ) → Totalled d (totals_in r L) → r ≡ None → Over d
totals_lack L w e = w.over (ap (λ x. totals_in x L) e)
