-- The laws of a turn in the words of the code: d names are open, and q is the place of the next input of the one on top.
-- Assumes nothing.
use mathlib.Core.Path.{◌≡◌, subst}
use mathlib.Core.List.{List}
use Prim.Native.Nat.{ℕ, suc, ◌+◌, ◌-◌, ◌<◌, ◌≤◌}
use native.Mathlib.Omega.{arith}
use lib.ListN.{get_or, length, set}
use Rattle.depthfirst.specs.Inputs.{Arrays}
use Rattle.depthfirst.specs.Marking.{Listed, Passes, Stands, Opened, Closed}
use Rattle.depthfirst.specs.Answers.{Shown}
use Rattle.depthfirst.proofs.Going.{Going, turn_low, turn_room, turn_new_room, turn_listed, going_leave, going_open, next_low, next_new, next_stands, next_ring}

module _ {S I : List ℕ} {n : ℕ} {M K A Q : List ℕ} {d left : ℕ} {target : ℕ → List ℕ}
    (ar : Arrays S I n) (w : Going S I n M K A Q d left target) (some : 0 < d) where
  as_top : Going S I n M K A Q (suc (d - 1)) left target
  as_top = let e : d ≡ suc (d - 1) = omega arith in subst (λ k. Going S I n M K A Q k left target) e w

  pub top_room : d + left ≤ n
  top_room = let r = turn_room ar as_top in omega arith

  pub top_inside : get_or K (d - 1) 0 < n
  top_inside = turn_low ar as_top

  pub listed : Listed n I M (get_or S (get_or K (d - 1) 0 + 1) 0)
  listed = turn_listed ar as_top

  module _ {q : ℕ} (ps : Passes n I M (get_or A (d - 1) 0) (get_or S (get_or K (d - 1) 0 + 1) 0) q) where
    pub leave_turn : {M' Q' : List ℕ} → get_or S (get_or K (d - 1) 0 + 1) 0 ≤ q → Closed M Q left (get_or K (d - 1) 0) M' Q'
        → Going S I n M' K A Q' (d - 1) (left + 1) target
    leave_turn {M'} {Q'} end c =
        let e : suc left ≡ left + 1 = omega arith in
        subst (λ k. Going S I n M' K A Q' (d - 1) k target) e (going_leave ar as_top ps end c)

    module _ (more : q < get_or S (get_or K (d - 1) 0 + 1) 0) where
      pub place_inside : q < length I
      place_inside = let h = ar.inside (get_or K (d - 1) 0) top_inside in omega arith

      pub input_inside : get_or I q 0 < n
      input_inside = ar.named q place_inside

      pub ring_stands : get_or M (get_or I q 0) 0 ≡ 1 → Stands K d (get_or I q 0)
      ring_stands h =
          let e : suc (d - 1) ≡ d = omega arith in
          subst (λ k. Stands K k (get_or I q 0)) e (next_stands ar as_top ps more h)

      pub ring_turn : {r : ℕ} → r < d → get_or K r 0 ≡ get_or I q 0 → Shown S I K r d
      ring_turn {r} l h =
          let e : suc (d - 1) ≡ d = omega arith in
          let b : r < suc (d - 1) = omega arith in
          subst (λ k. Shown S I K r k) e (next_ring ar as_top ps more b h)

      module _ (new : get_or M (get_or I q 0) 0 ≡ 1 → ⊥) where
        new_mark : get_or M (get_or I q 0) 0 ≡ 0
        new_mark = next_new ar as_top ps more new

        pub open_room : d + left < n
        open_room = let r = turn_new_room ar as_top (get_or I q 0) (next_low ar as_top ps more) new_mark in omega arith

        pub open_turn : {M' K' A' : List ℕ} → Opened S M K (set A (d - 1) q) d (get_or I q 0) M' K' A' → Going S I n M' K' A' Q (d + 1) left target
        open_turn {M'} {K'} {A'} o =
            let e : suc (suc (d - 1)) ≡ d + 1 = omega arith in
            let b : d ≡ suc (d - 1) = omega arith in
            subst (λ k. Going S I n M' K' A' Q k left target) e (going_open ar as_top ps more new_mark
            (subst (λ k. Opened S M K (set A (d - 1) q) k (get_or I q 0) M' K' A') b o))
