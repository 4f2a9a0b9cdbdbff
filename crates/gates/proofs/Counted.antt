-- The inputs of a gate that count.
-- Assumes nothing.
use mathlib.Core.Path.{◌≡◌, sym, ap, ◌∙◌, subst}
use mathlib.Core.Logic.{◌≢◌}
use mathlib.Core.List.{List, map}
use Prim.Native.Nat.{ℕ, ◌+◌, ◌<◌}
use native.Mathlib.Omega.{arith}
use lib.Dec.{eqb}
use lib.ListN.{length, take}
use borrow.Author.Tests.{eq-eqb, ne_eqb}
use Rattle.paper.specs.Trees.{Input}
use Rattle.paper.specs.Flat.{gates_from, failed_from, input_of}
use Rattle.twins.specs.Distinct.{Distinct}
use Rattle.twins.proofs.Firsts.{firsts_length, firsts_some, firsts_places}
use Rattle.twins.proofs.Inputs.{distinct_inputs_lem}
use Rattle.gates.specs.Rules.{counted}
use Rattle.gates.specs.Rows.{Own}

pub all_of_and : {kind : ℕ} (is : List Input) → kind ≡ 2 → is ≡ counted kind is
all_of_and {kind} is e = rw (eq-eqb kind 2 e)

pub all_of_or : {kind : ℕ} (is : List Input) → kind ≢ 2 → kind ≡ 3 → is ≡ counted kind is
all_of_or {kind} is n e = rw (ne_eqb kind 2 n, eq-eqb kind 3 e)

module _ {own out : List ℕ} {n : ℕ} (d : Distinct own out n) where
  -- what was found counts in any other kind
  pub distinct_of_least : {kind : ℕ} → kind ≢ 2 → kind ≢ 3 → map input_of (take n out) ≡ counted kind (map input_of own)
  distinct_of_least {kind} a b = rw (ne_eqb kind 2 a, ne_eqb kind 3 b) (ap (map input_of) d.front ∙ sym (distinct_inputs_lem own))

  module _ {G : List ℕ} (w : Own G own) where
    -- and keeps the rules of a gate's inputs
    pub found_own : Own G (take n out)
    found_own = subst (Own G) (sym d.front) (record {
      some = firsts_some eqb own w.some;
      few = let f = firsts_length eqb own in let l = w.few in omega arith;
      earlier = firsts_places eqb (λ x. (x < failed_from → x < gates_from + length G)) 0 own w.earlier;
    })
