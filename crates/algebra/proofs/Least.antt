-- At least 1 of any inputs is their or, and at least as many as are distinct is their and.
-- Assumes nothing.
use mathlib.Core.Path.{◌≡◌, refl, sym, ap, ◌∙◌, fun_ext}
use mathlib.Core.Bool.{Bool, true, false, cond, ◌&&◌, ◌||◌}
use mathlib.Core.List.{List, [], ◌∷◌, map}
use Prim.Native.Nat.{suc, ◌+◌}
use native.Mathlib.Omega.{arith}
use lib.ListN.{length, length-map}
use lib.Dec.{leb, leb-zero, leb-suc-suc}
use borrow.Author.Tests.{lt-leb, le-leb}
use Rattle.paper.specs.Sets.{Set}
use Rattle.paper.specs.Functions.{Fun}
use Rattle.paper.specs.Trees.{Input, and_g, or_g, least_g, same_input, distinct_inputs, every_fails, some_fails, count_fails, input_fun, gate_fun}
use Rattle.twins.proofs.Firsts.{firsts_fold}
use Rattle.twins.proofs.Inputs.{same_input_lem}
use Rattle.algebra.proofs.Gates.{count_le}

-- one fails exactly if some fails
pub one_fails : (Fs : List Fun) (v : Set) → leb 1 (count_fails Fs v) ≡ some_fails Fs v
one_fails [] v = lt-leb 1 0 (omega arith)
one_fails (F ∷ Fs) v = go (F v) (one_fails Fs v)
  where
    go : (b : Bool) → leb 1 (count_fails Fs v) ≡ some_fails Fs v → leb 1 (cond b 1 0 + count_fails Fs v) ≡ (b || some_fails Fs v)
    go true e = le-leb 1 (1 + count_fails Fs v) (omega arith)
    go false e = let z : 0 + count_fails Fs v ≡ count_fails Fs v = omega arith in rw z e

-- as many fail as there are exactly if every one fails
pub all_fail : (Fs : List Fun) (v : Set) → leb (length Fs) (count_fails Fs v) ≡ every_fails Fs v
all_fail [] v = leb-zero 0
all_fail (F ∷ Fs) v = go (F v) (all_fail Fs v)
  where
    go : (b : Bool) → leb (length Fs) (count_fails Fs v) ≡ every_fails Fs v → leb (suc (length Fs)) (cond b 1 0 + count_fails Fs v) ≡ (b && every_fails Fs v)
    go true e = let z : 1 + count_fails Fs v ≡ suc (count_fails Fs v) = omega arith in rw z (leb-suc-suc (length Fs) (count_fails Fs v) ∙ e)
    go false e = lt-leb (suc (length Fs)) (0 + count_fails Fs v) (omega (arith, count_le Fs v))

-- a twin changes neither whether some fails nor whether every one does
module _ (gs : List Fun) (v : Set) where
  some_twins : (is : List Input) → some_fails (map (input_fun gs) (distinct_inputs is)) v ≡ some_fails (map (input_fun gs) is) v
  some_twins = firsts_fold same_input same_input_lem (λ i b. input_fun gs i v || b) (λ i. twice (input_fun gs i v)) (λ i j. swap (input_fun gs i v) (input_fun gs j v))
      (λ is. some_fails (map (input_fun gs) is) v) (λ i is. refl)
    where
      twice : (a r : Bool) → (a || (a || r)) ≡ (a || r)
      twice true r = refl
      twice false r = refl

      swap : (a b r : Bool) → (a || (b || r)) ≡ (b || (a || r))
      swap true true r = refl
      swap true false r = refl
      swap false b r = refl

  every_twins : (is : List Input) → every_fails (map (input_fun gs) (distinct_inputs is)) v ≡ every_fails (map (input_fun gs) is) v
  every_twins = firsts_fold same_input same_input_lem (λ i b. input_fun gs i v && b) (λ i. twice (input_fun gs i v)) (λ i j. swap (input_fun gs i v) (input_fun gs j v))
      (λ is. every_fails (map (input_fun gs) is) v) (λ i is. refl)
    where
      twice : (a r : Bool) → (a && (a && r)) ≡ (a && r)
      twice true r = refl
      twice false r = refl

      swap : (a b r : Bool) → (a && (b && r)) ≡ (b && (a && r))
      swap false true r = refl
      swap false false r = refl
      swap true b r = refl

-- AT LEAST 1 has the or's function, and AT LEAST AS MANY AS ARE DISTINCT the and's, whatever the inputs are
pub least_one : (gs : List Fun) (is : List Input) → gate_fun gs (least_g 1 is) ≡ gate_fun gs (or_g is)
least_one gs is = fun_ext (λ v. one_fails (map (input_fun gs) (distinct_inputs is)) v ∙ some_twins gs v is)

pub least_all : (gs : List Fun) (is : List Input) → gate_fun gs (least_g (length (distinct_inputs is)) is) ≡ gate_fun gs (and_g is)
least_all gs is = fun_ext (λ v. ap (λ n. leb n (count_fails (map (input_fun gs) (distinct_inputs is)) v)) (sym (length-map (distinct_inputs is) (input_fun gs)))
    ∙ all_fail (map (input_fun gs) (distinct_inputs is)) v ∙ every_twins gs v is)
