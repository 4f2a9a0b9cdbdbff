-- Walks from nothing left: the walk from one root, and the walks from every name in turn.
-- Assumes nothing.
use mathlib.Core.Path.{◌≡◌, refl, sym, ap, ◌∙◌, subst}
use mathlib.Core.Logic.{◌⊎◌, inl, inr, ◌↔◌}
use mathlib.Core.Bool.{true, false≢true}
use mathlib.Core.List.{List, [], ◌∷◌}
use Prim.Native.Nat.{ℕ, suc, ◌+◌, ◌-◌, ◌<◌, ◌≤◌}
use native.Mathlib.Numerals.{add-one}
use native.Mathlib.Omega.{arith}
use lib.ListN.{get_or, length, take}
use lib.Seq.{slice}
use Rattle.paper.specs.Lists.{In}
use Rattle.paper.specs.Walks.{Steps, Reaches, Ring, visit, postorder, events_of, LeadsBack}
use Rattle.depthfirst.specs.Inputs.{inputs_of, Arrays}
use Rattle.depthfirst.specs.Marking.{Rooms, Idle, Clear}
use Rattle.depthfirst.specs.Answers.{visit_all, Ended, WalksOn, InOrder, Walks, AllInOrder, WalksAll, is_back, Numberable}
use Rattle.std.specs.Prelude.{Result, Ok, Err}
use Rattle.depthfirst.specs.declared.RingError.{RingError}
use Rattle.depthfirst.proofs.Lists.{in_place, slice_in}
use Rattle.depthfirst.proofs.Marks.{all_le, all_none, all_marked, marks_clear}
use Rattle.depthfirst.proofs.Order.{ordered_none, ordered_reaches, ordered_ringless}
use Rattle.depthfirst.proofs.Meeting.{events_met}
use Rattle.depthfirst.proofs.Visits.{visit_own, visit_only, visit_all_has}

-- ---- the work lists

pub rooms_kept : {n : ℕ} {M K A Q M' K' A' Q' : List ℕ} → Rooms n M K A Q
    → length M' ≡ length M → length K' ≡ length K → length A' ≡ length A → length Q' ≡ length Q → Rooms n M' K' A' Q'
rooms_kept r m k a q = record { marks = omega (arith, r.marks); stack = omega (arith, r.stack); places = omega (arith, r.places); order = omega (arith, r.order) }

pub idle_clear : (S I : List ℕ) {n : ℕ} {M : List ℕ} (Q : List ℕ) → n ≤ length M → Clear n M → Idle S I n M Q 0
idle_clear S I {n} {M} Q l c = record { marks = marks_clear l c; full = all_none n M l c; ordered = ordered_none (inputs_of S I) }

-- ---- the walk from one root

module _ (S I : List ℕ) (n root : ℕ) (low : root < n) where
  root_own : In root (postorder (inputs_of S I) n root)
  root_own = let e : suc (n - 1) ≡ n = omega arith in subst (λ k. In root (visit (inputs_of S I) k [] root)) e (visit_own (inputs_of S I) (n - 1) [] root)

  in_order : (M Q : List ℕ) (r : ℕ) → n ≤ length M → Ended S I n M Q r (λ k. postorder (inputs_of S I) k root) → InOrder S I n root Q r
  in_order M Q r l e = record {
    inside = omega (arith, all_le n M l, e.idle.full);
    is = e.is;
    events = λ k l. ap (events_of (inputs_of S I)) (e.is k l) ∙ events_met (inputs_of S I) k root (λ z h. ordered_ringless e.idle.ordered z (reached z h));
    ordered = e.idle.ordered;
    low = e.idle.marks.done_low;
    own = own;
    every = λ z h. reached z (inr h);
    only = λ z h. only z (visit_only (inputs_of S I) n [] root z (subst (λ q. In z q) (e.is n (omega arith)) h));
    ringless = ordered_ringless e.idle.ordered;
  }
    where
      own : In root (take r Q)
      own = subst (λ q. In root q) (sym (e.is n (omega arith))) root_own

      reached : (z : ℕ) → (z ≡ root) ⊎ Reaches (inputs_of S I) root z → In z (take r Q)
      reached z (inl q) = subst (λ w. In w (take r Q)) (sym q) own
      reached z (inr h) = ordered_reaches e.idle.ordered root z own h

      only : (z : ℕ) → In z [] ⊎ ((z ≡ root) ⊎ Reaches (inputs_of S I) root z) → (z ≡ root) ⊎ Reaches (inputs_of S I) root z
      only z (inl h) = absurd h
      only z (inr h) = h

  pub walks_of : (M K Q : List ℕ) (w : Result ℕ RingError) → n ≤ length M → WalksOn S I n M K Q (λ k. postorder (inputs_of S I) k root) w → Walks S I n root K Q w
  walks_of M K Q (Ok r) l h = in_order M Q r l h
  walks_of M K Q (Err e) l h = h

-- ---- the walks from every name

-- the walks from the names 0 to i - 1 are done
pub record Covers (S I : List ℕ) (n : ℕ) (M Q : List ℕ) (left i : ℕ) : Type 0 where
  pub idle : Idle S I n M Q left
  pub is : (k : ℕ) → n ≤ k → take left Q ≡ visit_all (inputs_of S I) k i

pub covers_none : {S I : List ℕ} {n : ℕ} {M Q : List ℕ} → Idle S I n M Q 0 → Covers S I n M Q 0 0
unfolding visit_all
covers_none d = record { idle = d; is = λ k h. refl }

pub covers_next : {S I : List ℕ} {n : ℕ} {M Q M' Q' : List ℕ} {left i r : ℕ} → Covers S I n M Q left i
    → Ended S I n M' Q' r (λ k. visit (inputs_of S I) k (take left Q) i) → Covers S I n M' Q' r (i + 1)
unfolding visit_all
covers_next {S} {I} {n} {i = i} c e = record {
  idle = e.idle;
  is = λ k h. rw add-one (e.is k h ∙ ap (λ l. visit (inputs_of S I) k l i) (c.is k h));
}

module _ {S I : List ℕ} {n : ℕ} {M Q : List ℕ} {left i : ℕ} (long : n ≤ length M) (c : Covers S I n M Q left i) (end : i ≡ n) where
  covered : (z : ℕ) → z < n → In z (take left Q)
  covered z h =
      let e : suc (n - 1) ≡ n = omega arith in
      let b : z < i = omega arith in
      subst (λ l. In z l) (ap (λ k. visit_all (inputs_of S I) k i) e ∙ sym (c.is n (omega arith))) (visit_all_has (inputs_of S I) (n - 1) i z b)

  all_left : left ≡ n
  all_left = sym c.idle.full ∙ all_marked n M long (λ z h. let t = c.idle.marks.done_two z (covered z h) in omega arith)

  pub covers_all : AllInOrder S I n Q left
  covers_all = record {
    count = all_left;
    is = λ k h. subst (λ j. take j Q ≡ visit_all (inputs_of S I) k n) all_left (c.is k h ∙ ap (visit_all (inputs_of S I) k) end);
    ordered = rw all_left at c.idle.ordered;
    every = λ z h. subst (λ k. In z (take k Q)) all_left (covered z h);
    ringless = λ z h. ordered_ringless c.idle.ordered z (covered z h);
  }

-- ---- a ring is shown exactly if some name leads back to itself

module _ {S I : List ℕ} {n : ℕ} (ar : Arrays S I n) where
  -- every input is one of the names
  pub input_low : (x y : ℕ) → In y (inputs_of S I x) → y < n
  unfolding inputs_of
  input_low x y h = go (in_place y I (slice_in y (get_or S x 0) (get_or S (x + 1) 0) I h))
    where
      go : (j : ℕ) × (j < length I) × (get_or I j 0 ≡ y) → y < n
      go p = let l = ar.named p.0 p.1 in omega (arith, p.2)

  pub steps_low : (l : List ℕ) (x z : ℕ) → Steps (inputs_of S I) x l z → z < n
  steps_low [] x z s = input_low x z s
  steps_low (y ∷ l) x z s = steps_low l y z s.1

  pub ring_back : (l : List ℕ) → Ring (inputs_of S I) l → LeadsBack (inputs_of S I) n
  ring_back [] s = absurd s
  ring_back (x ∷ l) s = record { name = x; low = steps_low l x x s; back = record { via = l; steps = s } }

  pub back_exactly : (K Q : List ℕ) (w : Result ℕ RingError) → WalksAll S I n K Q w → (is_back w ≡ true) ↔ LeadsBack (inputs_of S I) n
  back_exactly K Q (Ok r) h = (λ e. absurd (false≢true e), λ b. absurd (h.ringless b.name b.low b.back))
  back_exactly K Q (Err e) h = (λ q. ring_back (slice e.from e.to K) h.ring, λ b. refl)

-- ---- what a walk left can be numbered

pub order_numberable : {S I : List ℕ} {n root : ℕ} {Q N : List ℕ} {r : ℕ} → Arrays S I n → n ≤ length Q → n ≤ length N → InOrder S I n root Q r → Numberable S I n Q r N
order_numberable ar l m o = record {
  arrays = ar;
  few = o.inside;
  inside = omega (arith, o.inside);
  low = o.low;
  ordered = o.ordered;
  long = m;
}
