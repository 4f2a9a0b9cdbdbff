-- A gate's distinct inputs are those of the distinct numbers that stand for them in memory.
-- Assumes nothing.
use mathlib.Core.Path.{◌≡◌, refl, sym, ap, ◌∙◌}
use mathlib.Core.Logic.{inl, inr}
use mathlib.Core.List.{List, [], ◌∷◌, map}
use Prim.Native.Nat.{ℕ, ◌+◌, ◌≤◌}
use native.Mathlib.Omega.{arith}
use lib.Dec.{eqb}
use borrow.Author.Tests.{eqb-true, eqb-false, eq-eqb, ne_eqb}
use Rattle.paper.specs.Lists.{In}
use Rattle.paper.specs.Trees.{Input, event, gate, forced, same_input, distinct_inputs, InputBelow, InputsBelow}
use Rattle.paper.specs.Flat.{gates_from}
use Rattle.twins.specs.Distinct.{distinct_codes}
use Rattle.twins.proofs.Firsts.{firsts_map}
use Rattle.rules.proofs.Cases.{either}
use Rattle.records.specs.Trees.{InputLower, InputsLower}
use Rattle.records.specs.Flattened.{code_of}

-- n events, whose numbers are below those of gates; a gate numbered g
module _ (n : ℕ) (low : n ≤ gates_from) (g : ℕ) where
  same_codes : (a b : Input) → InputBelow n a × InputLower g a → InputBelow n b × InputLower g b → eqb (code_of a) (code_of b) ≡ same_input a b
  same_codes (event a) (event b) p q = refl
  same_codes (event a) (gate b) (p, i) q = ne_eqb a (gates_from + b) (λ r. omega arith)
  same_codes (event a) (forced b y) p (q, j) = absurd j
  same_codes (gate a) (event b) p (q, j) = ne_eqb (gates_from + a) b (λ r. omega arith)
  same_codes (gate a) (forced b y) p (q, j) = absurd j
  same_codes (forced a x) b (p, i) q = absurd i
  same_codes (gate a) (gate b) p q =
      either (eqb a b)
      (λ e. eq-eqb (gates_from + a) (gates_from + b) (ap (λ (x : ℕ). gates_from + x) (eqb-true a b e)) ∙ sym e)
      (λ e. ne_eqb (gates_from + a) (gates_from + b) (λ r. eqb-false a b e (omega arith)) ∙ sym e)

  each_in : (i : Input) (is : List Input) → InputsBelow n is → InputsLower g is → In i is → InputBelow n i × InputLower g i
  each_in i [] b l h = absurd h
  each_in i (x ∷ is) b l (inl e) = rw e (b.0, l.0)
  each_in i (x ∷ is) b l (inr h) = each_in i is b.1 l.1 h

  -- THE DISTINCT NUMBERS
  pub distinct_codes_lem : (is : List Input) → InputsBelow n is → InputsLower g is → distinct_codes (map code_of is) ≡ map code_of (distinct_inputs is)
  distinct_codes_lem is b l = firsts_map same_input eqb code_of is (λ x y h k. same_codes x y (each_in x is b l h) (each_in y is b l k))
