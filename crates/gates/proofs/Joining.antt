-- Inputs joined from left to right: one input more, one step more.
-- Assumes nothing.
use mathlib.Core.Path.{◌≡◌, refl, ap}
use mathlib.Core.Logic.{inl, inr}
use mathlib.Core.Bool.{Bool, false}
use mathlib.Core.List.{List, [], ◌∷◌, ◌++◌}
use Prim.Native.Nat.{ℕ, zero, suc, ◌+◌, ◌≤◌, ◌<◌}
use native.Mathlib.Omega.{arith}
use native.Mathlib.Numerals.{add-one}
use lib.ListN.{length, take, get_or}
use lib.Seq.{take-suc}
use Rattle.paper.specs.Lists.{In}
use Rattle.paper.specs.Steps.{join_from, join_steps}
use Rattle.paper.specs.Diagrams.{Diagram, leaf}
use Rattle.algebra.specs.Operations.{join_d, event_d}
use Rattle.gates.specs.Kinds.{join_all_d, join_steps_d}

from : Bool → Diagram → List Diagram → Diagram
from = join_from event_d leaf join_d

from_end : (z : Bool) (x : Diagram) (ys : List Diagram) (y : Diagram) → from z x (ys ++ (y ∷ [])) ≡ join_d z (from z x ys) y
unfolding from
from_end z x [] y = refl
from_end z x (w ∷ ys) y = from_end z (join_d z x w) ys y

steps_end : (z : Bool) (x : Diagram) (ys : List Diagram) (y : Diagram)
    → join_steps event_d leaf join_d z x (ys ++ (y ∷ [])) ≡ join_steps event_d leaf join_d z x ys ++ (join_d z (from z x ys) y ∷ [])
unfolding from
steps_end z x [] y = refl
steps_end z x (w ∷ ys) y = ap (x ∷◌) (steps_end z (join_d z x w) ys y)

module _ (z : Bool) (ds : List Diagram) (i : ℕ) (some : 1 ≤ i) (h : i < length ds) where
  -- the join with the next input
  pub join_next : join_all_d z (take (i + 1) ds) ≡ join_d z (join_all_d z (take i ds)) (get_or ds i (leaf false))
  unfolding from
  join_next = rw (add-one i, take-suc ds i (leaf false) h) (go ds i some h)
    where
      go : (ds : List Diagram) (i : ℕ) → 1 ≤ i → i < length ds → join_all_d z (take i ds ++ (get_or ds i (leaf false) ∷ [])) ≡ join_d z (join_all_d z (take i ds)) (get_or ds i (leaf false))
      go [] i a b = absurd (omega arith)
      go (x ∷ xs) zero a b = absurd (omega arith)
      go (x ∷ xs) (suc i) a b = from_end z x (take i xs) (get_or xs i (leaf false))

  pub steps_next : join_steps_d z (take (i + 1) ds) ≡ join_steps_d z (take i ds) ++ (join_d z (join_all_d z (take i ds)) (get_or ds i (leaf false)) ∷ [])
  unfolding from
  steps_next = rw (add-one i, take-suc ds i (leaf false) h) (go ds i some h)
    where
      go : (ds : List Diagram) (i : ℕ) → 1 ≤ i → i < length ds
          → join_steps_d z (take i ds ++ (get_or ds i (leaf false) ∷ [])) ≡ join_steps_d z (take i ds) ++ (join_d z (join_all_d z (take i ds)) (get_or ds i (leaf false)) ∷ [])
      go [] i a b = absurd (omega arith)
      go (x ∷ xs) zero a b = absurd (omega arith)
      go (x ∷ xs) (suc i) a b = steps_end z x (take i xs) (get_or xs i (leaf false))

-- the steps of the first inputs are steps of all
front : (z : Bool) (d x : Diagram) (i : ℕ) (xs : List Diagram) → In d (join_steps event_d leaf join_d z x (take i xs)) → In d (join_steps event_d leaf join_d z x xs)
front z d x zero [] h = h
front z d x zero (y ∷ xs) (inl e) = inl e
front z d x zero (y ∷ xs) (inr h) = absurd h
front z d x (suc i) [] h = h
front z d x (suc i) (y ∷ xs) (inl e) = inl e
front z d x (suc i) (y ∷ xs) (inr h) = inr (front z d (join_d z x y) i xs h)

pub steps_front : (z : Bool) (d : Diagram) (i : ℕ) (ds : List Diagram) → 1 ≤ i → 1 ≤ length ds → In d (join_steps_d z (take i ds)) → In d (join_steps_d z ds)
steps_front z d i [] a b h = absurd (omega arith)
steps_front z d zero (x ∷ xs) a b h = absurd (omega arith)
steps_front z d (suc i) (x ∷ xs) a b h = front z d x i xs h

-- one input joins nothing
pub join_first : (z : Bool) (ds : List Diagram) → 1 ≤ length ds → join_all_d z (take 1 ds) ≡ get_or ds 0 (leaf false)
join_first z [] h = absurd (omega arith)
join_first z (x ∷ xs) h = refl

pub steps_first : (z : Bool) (ds : List Diagram) → 1 ≤ length ds → join_steps_d z (take 1 ds) ≡ get_or ds 0 (leaf false) ∷ []
steps_first z [] h = absurd (omega arith)
steps_first z (x ∷ xs) h = refl
