-- The answers of the call, from what its tests showed.
-- Assumes nothing.
use mathlib.Core.Path.{◌≡◌, refl, sym, ap, ◌∙◌, subst}
use mathlib.Core.Logic.{◌⊎◌, inl, inr}
use mathlib.Core.Bool.{true}
use mathlib.Core.List.{List, ◌++◌}
use Prim.Native.Nat.{ℕ, ◌+◌, ◌-◌, ◌≤◌, ◌<◌}
use native.Mathlib.Omega.{arith}
use lib.ListN.{length, get_or, drop, get_or-append, length-append, length-drop}
use lib.Seq.{get_or-append_right}
use Rattle.std.proofs.lemmas.List.{get_or-drop}
use Rattle.tables.specs.Table.{den}
use Rattle.tables.specs.Lent.{Lent}
use Rattle.store.proofs.Denotes.{below_or_not}
use Rattle.without.specs.Reading.{Held}
use Rattle.tables.proofs.Lent.{lent_lower, root_ordered}
use Rattle.paper.specs.Sizes.{count_of, sizes}
use Rattle.sizes.specs.Recursion.{sized, deepest}
use Rattle.sizes.specs.Passes.{Over, Whole, Written}
use Rattle.sizes.specs.Counted.{Fits, TooMany, Refused, Stopped, Done}
use Rattle.sizes.proofs.Counts.{count_sized, deepest_within, sized_above}

-- ---- writing

pub written_front : {m : ℕ} {C L D : List ℕ} → length L ≡ m → m ≤ length C → D ≡ L → Written m C L (D ++ drop m C)
written_front {m} {C} {L} {D} e l q = subst (λ X. Written m C L (X ++ drop m C)) (sym q) (record {
  at = λ j h. get_or-append L (drop m C) 0 j (omega arith);
  behind = λ j h. get_or-append_right L (drop m C) j 0 (omega arith) ∙ get_or-drop m C (j - length L) 0 ∙ (let k : m + (j - length L) ≡ j = omega arith in ap (λ x. get_or C x 0) k);
  long = simp (length-append, length-drop) (omega arith);
})

-- ---- the answers

pub refused_now : {why number place : ℕ} {C B W R : List ℕ} → (number ≡ why) × (place ≡ 0) → Refused why number place C B W R C B W R
refused_now r = record { number_is = r.0; no_place = r.1; counts = refl; less = refl; work = refl; reached = refl }

pub stopped_now : {number place : ℕ} {C : List ℕ} → (number ≡ 19) × (place ≡ 0) → Stopped number place C C
stopped_now r = record { number_is = r.0; no_place = r.1; counts = refl }

module _ {n : ℕ} {T : List ℕ} {c root : ℕ} (lent : Lent true n T c root) where
  pub lent_held : Held T root
  lent_held = record { count = c; fits = lent.fits; lower = lent_lower lent; within = lent.root_in }

  by_sized : (k : ℕ) → count_of n k (den T root) ≡ sized (den T root) k
  by_sized = count_sized n 0 (den T root) (root_ordered lent)

  -- no set has more members than there are events
  deep : deepest (den T root) ≤ n
  deep = let h = deepest_within 0 n (den T root) (root_ordered lent) (omega arith) in omega (arith, h)

  pub lent_deep : deepest (den T root) < sizes
  lent_deep = let h = deep in let g = lent.few_events in omega (arith, h, g)

  pub lent_over : Over (den T root) → TooMany n (den T root)
  lent_over o = record {
    size = o.size;
    within = go (below_or_not n o.size);
    above = let e = by_sized o.size in let h = o.large in omega (arith, e, h);
  }
    where
      go : (n < o.size) ⊎ (o.size ≤ n) → o.size ≤ n
      go (inl l) = let d = deep in let z = sized_above (den T root) o.size (omega (arith, d, l)) in let h = o.large in absurd (omega (arith, z, h))
      go (inr l) = l

  pub lent_fits : {L : List ℕ} → Whole (den T root) L → Fits n (den T root)
  lent_fits w = record { each = λ k. let e = by_sized k in let h = w.small k in omega (arith, e, h) }

  pub lent_done : {number place : ℕ} {L C C' : List ℕ} → Whole (den T root) L → Written sizes C L C' → (number ≡ 0) × (place ≡ 0) → Done n (den T root) number place C C'
  lent_done w x r = record {
    number_is = r.0;
    no_place = r.1;
    counts = λ k h. x.at k h ∙ w.at k ∙ sym (by_sized k);
    behind = x.behind;
    long = x.long;
  }
