-- The at-least rule: what it makes of one input more, where it stops, and which pairs it reaches.
-- Assumes nothing.
use mathlib.Core.Path.{◌≡◌, refl, subst}
use mathlib.Core.Logic.{◌⊎◌, inl, inr}
use mathlib.Core.Bool.{true, false}
use mathlib.Core.List.{List, [], ◌∷◌, ◌++◌}
use Prim.Native.Nat.{ℕ, zero, suc, ◌+◌, ◌<◌, ◌≤◌}
use native.Mathlib.Decide.{dec_lt}
use native.Mathlib.Omega.{arith}
use lib.ListN.{length, drop}
use borrow.Author.Tests.{le-leb, lt-leb}
use Rattle.paper.specs.Lists.{In}
use Rattle.paper.specs.Diagrams.{Diagram, leaf}
use Rattle.algebra.specs.Operations.{join_d}
use Rattle.algebra.proofs.Lists.{in_left, in_right}
use Rattle.atleast.specs.Rules.{least_d, least_steps_d}

-- the conjunction of an input with at-least k of the rest, and the pair that it makes
abbrev pub conj : ℕ → Diagram → List Diagram → Diagram
conj k x xs = join_d false x (least_d k xs)

abbrev pub pair : ℕ → Diagram → List Diagram → Diagram
pair k x xs = join_d true (conj k x xs) (least_d (suc k) xs)

-- ---- one input more

module _ (k : ℕ) (x : Diagram) (xs : List Diagram) where
  pub least_one : k ≤ length xs → least_d (suc k) (x ∷ xs) ≡ pair k x xs
  least_one h = rw (le-leb (suc k) (suc (length xs)) (omega arith))

  pub steps_one : k ≤ length xs → least_steps_d (suc k) (x ∷ xs) ≡ pair k x xs ∷ (conj k x xs ∷ (least_steps_d k xs ++ least_steps_d (suc k) xs))
  steps_one h = rw (le-leb (suc k) (suc (length xs)) (omega arith))

-- ---- fewer than j

pub least_few : (j : ℕ) (xs : List Diagram) → length xs < j → least_d j xs ≡ leaf false
least_few zero xs h = absurd (omega arith)
least_few (suc j) [] h = refl
least_few (suc j) (x ∷ xs) h = rw (lt-leb (suc j) (suc (length xs)) h)

pub steps_few : (j : ℕ) (xs : List Diagram) → length xs < j → least_steps_d j xs ≡ leaf false ∷ []
steps_few zero xs h = absurd (omega arith)
steps_few (suc j) [] h = refl
steps_few (suc j) (x ∷ xs) h = rw (lt-leb (suc j) (suc (length xs)) h)

-- ---- the pairs that the rule reaches

up_to : (i j : ℕ) → (i ≤ j) ⊎ (j < i)
up_to i j = elim (dec_lt j i) [ yes l ↦ inr l | no n ↦ inl (omega arith) ]

-- from k of ds, by i inputs: at-least j with k - i ≤ j ≤ k, unless it is constant
pub reached : (d : Diagram) (i k : ℕ) (ds : List Diagram) (j : ℕ) → 1 ≤ j → j + i ≤ length ds → k ≤ j + i → j ≤ k → In d (least_steps_d j (drop i ds)) → In d (least_steps_d k ds)
reached d zero k ds j one fits low high h = let e : j ≡ k = omega arith in subst (λ m. In d (least_steps_d m ds)) e h
reached d (suc i) k [] j one fits low high h = absurd (omega arith)
reached d (suc i) zero (x ∷ xs) j one fits low high h = absurd (omega arith)
reached d (suc i) (suc k) (x ∷ xs) j one fits low high h =
    rw (steps_one k x xs (omega arith)) (inr (inr (go (up_to (suc k) (j + i))
    (λ l. reached d i (suc k) xs j one (omega arith) l high h)
    (λ l. reached d i k xs j one (omega arith) (omega arith) (omega arith) h))))
  where
    go : (suc k ≤ j + i) ⊎ (j + i < suc k) → (suc k ≤ j + i → In d (least_steps_d (suc k) xs)) → (j + i < suc k → In d (least_steps_d k xs)) → In d (least_steps_d k xs ++ least_steps_d (suc k) xs)
    go (inl l) a b = in_right d (least_steps_d k xs) (least_steps_d (suc k) xs) (a l)
    go (inr l) a b = in_left d (least_steps_d k xs) (least_steps_d (suc k) xs) (b l)
