-- Inputs that are left are passed over, and what opening and leaving a name keep.
-- Assumes nothing.
use mathlib.Core.Path.{◌≡◌, refl, sym, ap, ◌∙◌, subst}
use mathlib.Core.Logic.{◌⊎◌, inl, inr}
use mathlib.Core.List.{List, [], ◌∷◌, ◌++◌, append_assoc}
use Prim.Native.Nat.{ℕ, ◌+◌, ◌<◌, ◌≤◌}
use native.Mathlib.Omega.{arith}
use lib.ListN.{get_or, length, length-set}
use lib.Seq.{slice}
use Rattle.paper.specs.Lists.{In}
use Rattle.depthfirst.specs.Marking.{Listed, Passes, Opened, Closed}
use Rattle.depthfirst.proofs.Lists.{in_more, slice_none, slice_next}

-- ---- pass

pub record Passing (n : ℕ) (I M : List ℕ) (p e q : ℕ) : Type 0 where
  pub passed : List ℕ
  pub split : slice p e I ≡ passed ++ slice q e I
  pub low : (y : ℕ) → In y passed → y < n
  pub left : (y : ℕ) → In y passed → 2 ≤ get_or M y 0

pub passing_start : (n : ℕ) (I M : List ℕ) (p e : ℕ) → Passing n I M p e p
passing_start n I M p e = record { passed = []; split = refl; low = λ y h. absurd h; left = λ y h. absurd h }

module _ {n : ℕ} {I M : List ℕ} {e q : ℕ} (l : Listed n I M e) (more : q < e) where
  pub name_low : get_or I q 0 < n
  name_low = l.named q (omega (arith, l.inside))

  pub passing_next : {p : ℕ} → Passing n I M p e q → 2 ≤ get_or M (get_or I q 0) 0 → Passing n I M p e (q + 1)
  passing_next w two = record {
    passed = w.passed ++ (get_or I q 0 ∷ []);
    split = w.split ∙ ap (λ r. w.passed ++ r) (slice_next q e I more l.inside) ∙ sym (append_assoc w.passed (get_or I q 0 ∷ []) (slice (q + 1) e I));
    low = λ y h. low_of y (in_more y (get_or I q 0) w.passed h);
    left = λ y h. left_of y (in_more y (get_or I q 0) w.passed h);
  }
    where
      low_of : (y : ℕ) → In y w.passed ⊎ (y ≡ get_or I q 0) → y < n
      low_of y (inl h) = w.low y h
      low_of y (inr h) = let k = name_low in omega arith

      left_of : (y : ℕ) → In y w.passed ⊎ (y ≡ get_or I q 0) → 2 ≤ get_or M y 0
      left_of y (inl h) = w.left y h
      left_of y (inr h) = subst (λ k. 2 ≤ get_or M k 0) (sym h) two

pub passing_stop : {n : ℕ} {I M : List ℕ} {p e q : ℕ} → q < e → Passing n I M p e q → get_or M (get_or I q 0) 0 < 2 → (q < e) × Passes n I M p e q
passing_stop more w two = (more, record { passed = w.passed; split = w.split; low = w.low; left = w.left; stop = λ h. two })

pub passing_end : {n : ℕ} {I M : List ℕ} {p e q : ℕ} → e ≤ q → Passing n I M p e q → Passes n I M p e e
passing_end {I = I} {e = e} {q = q} l w = record {
  passed = w.passed;
  split = w.split ∙ ap (λ r. w.passed ++ r) (slice_none q e I l ∙ sym (slice_none e e I (omega arith)));
  low = w.low;
  left = w.left;
  stop = λ h. omega arith;
}

-- ---- they keep the lengths

module _ {S M K A : List ℕ} {d y : ℕ} {M' K' A' : List ℕ} (o : Opened S M K A d y M' K' A') where
  pub opened_marks : length M' ≡ length M
  opened_marks = rw o.mark (length-set M y 1)

  pub opened_stack : length K' ≡ length K
  opened_stack = rw o.stack (length-set K d y)

  pub opened_places : length A' ≡ length A
  opened_places = rw o.place (length-set A d (get_or S y 0))

module _ {M Q : List ℕ} {left x : ℕ} {M' Q' : List ℕ} (c : Closed M Q left x M' Q') where
  pub closed_marks : length M' ≡ length M
  closed_marks = rw c.mark (length-set M x 2)

  pub closed_order : length Q' ≡ length Q
  closed_order = rw c.order (length-set Q left x)
