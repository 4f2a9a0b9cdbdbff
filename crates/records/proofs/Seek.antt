-- Facts about `sum`, `among` and `lowest_unused`, as the loops of `used` and `missing` walk them.
-- Assumes nothing.
use mathlib.Core.Path.{◌≡◌}
use mathlib.Core.Bool.{true, false}
use mathlib.Core.List.{List}
use Prim.Native.Nat.{ℕ, zero, suc, ◌+◌, ◌-◌, ◌≤◌, ◌<◌}
use native.Mathlib.Numerals.{add-one}
use native.Mathlib.Omega.{arith}
use lib.ListN.{length, get_or, drop, drop_of_length-le}
use lib.Seq.{drop-cons}
use borrow.Author.Tests.{eq-eqb, ne_eqb}
use Rattle.std.specs.Prelude.{Some, None}
use Rattle.paper.specs.Lists.{sum}
use Rattle.records.specs.Uses.{among, lowest_unused}

module _ (l : List ℕ) (i : ℕ) (h : i < length l) where
  pub sum_more : sum (drop i l) ≡ get_or l i 0 + sum (drop (i + 1) l)
  sum_more = rw (add-one, drop-cons l i 0 h)

  pub among_here : (x : ℕ) → get_or l i 0 ≡ x → among x (drop i l) ≡ true
  unfolding among
  among_here x e = rw (drop-cons l i 0 h, eq-eqb _ _ e)

  pub among_past : (x : ℕ) → (get_or l i 0 ≡ x → ⊥) → among x (drop i l) ≡ among x (drop (i + 1) l)
  unfolding among
  among_past x e = rw (add-one, drop-cons l i 0 h, ne_eqb _ _ e)

pub among_none : (l : List ℕ) (i x : ℕ) → length l ≤ i → among x (drop i l) ≡ false
unfolding among
among_none l i x h = rw (drop_of_length-le l h)

pub sum_none : (l : List ℕ) (i : ℕ) → length l ≤ i → sum (drop i l) ≡ 0
sum_none l i h = rw (drop_of_length-le l h)

module _ (count i from : ℕ) (inputs : List ℕ) (h : i < count) where
  one_less : count - i ≡ suc (count - (i + 1))
  one_less = omega arith

  pub lowest_past : among (from + i) inputs ≡ true → lowest_unused (count - i) i from inputs ≡ lowest_unused (count - (i + 1)) (i + 1) from inputs
  unfolding lowest_unused
  lowest_past e = rw (one_less, e, lowest_unused)

  pub lowest_here : among (from + i) inputs ≡ false → lowest_unused (count - i) i from inputs ≡ Some i
  unfolding lowest_unused
  lowest_here e = rw (one_less, e, lowest_unused)

pub lowest_none : (count i from : ℕ) (inputs : List ℕ) → count ≤ i → lowest_unused (count - i) i from inputs ≡ None
unfolding lowest_unused
lowest_none count i from inputs h =
    let z : count - i ≡ zero = omega arith in
    rw z
