-- A gate's distinct inputs by their numbers in memory, and what holds of them because it holds of all.
-- Assumes nothing.
use mathlib.Core.Path.{◌≡◌, refl, sym, ap, ap₂, ◌∙◌}
use mathlib.Core.Bool.{Bool, true, false, cond, not, ◌&&◌, beq, false≢true}
use mathlib.Core.List.{List, [], ◌∷◌, map}
use Prim.Native.Nat.{ℕ, ◌-◌, ◌≤◌}
use native.Mathlib.Omega.{arith}
use lib.Dec.{eqb}
use borrow.Author.Tests.{eqb-true, eqb-false, eq-eqb, ne_eqb}
use Rattle.paper.specs.Lists.{keep}
use Rattle.paper.specs.Trees.{Input, event, gate, forced, same_input, distinct_inputs, InputsBelow}
use Rattle.paper.specs.Flat.{gates_from, failed_from, sound_from, input_of}
use Rattle.twins.specs.Distinct.{distinct_codes}
use Rattle.twins.proofs.Firsts.{firsts_map}
use Rattle.twins.proofs.Codes.{Stands, an_event, a_gate, failed_event, sound_event, stands}

-- only an input itself is the same
pub same_input_lem : (a b : Input) → same_input a b ≡ true → a ≡ b
same_input_lem (event a) (event b) e = ap event (eqb-true a b e)
same_input_lem (event a) (gate b) e = absurd (false≢true e)
same_input_lem (event a) (forced b y) e = absurd (false≢true e)
same_input_lem (gate a) (event b) e = absurd (false≢true e)
same_input_lem (gate a) (gate b) e = ap gate (eqb-true a b e)
same_input_lem (gate a) (forced b y) e = absurd (false≢true e)
same_input_lem (forced a x) (event b) e = absurd (false≢true e)
same_input_lem (forced a x) (gate b) e = absurd (false≢true e)
same_input_lem (forced a x) (forced b y) e = go (eqb a b) refl x y e
  where
    go : (t : Bool) → eqb a b ≡ t → (x y : Bool) → (t && beq x y) ≡ true → forced a x ≡ forced b y
    go true q true true e = ap (λ c. forced c true) (eqb-true a b q)
    go true q true false e = absurd (false≢true e)
    go true q false true e = absurd (false≢true e)
    go true q false false e = ap (λ c. forced c false) (eqb-true a b q)
    go false q x y e = absurd (false≢true e)

-- two inputs are the same exactly if their numbers are
pub same_code : (a b : ℕ) → same_input (input_of a) (input_of b) ≡ eqb a b
same_code a b = go (stands a) (stands b)
  where
    -- behind a number that both reach
    behind : (f : ℕ) → f ≤ a → f ≤ b → eqb (a - f) (b - f) ≡ eqb a b
    behind f h k = one (eqb (a - f) (b - f)) refl
      where
        one : (t : Bool) → eqb (a - f) (b - f) ≡ t → eqb (a - f) (b - f) ≡ eqb a b
        one true e = e ∙ sym (eq-eqb a b (omega (arith, eqb-true (a - f) (b - f) e)))
        one false e = e ∙ sym (ne_eqb a b (λ r. eqb-false (a - f) (b - f) e (ap (◌- f) r)))

    and_true : (t : Bool) → (t && true) ≡ t
    and_true true = refl
    and_true false = refl

    and_false : (t : Bool) → (t && false) ≡ false
    and_false true = refl
    and_false false = refl

    apart : (a ≡ b → ⊥) → false ≡ eqb a b
    apart h = sym (ne_eqb a b h)

    go : Stands a → Stands b → same_input (input_of a) (input_of b) ≡ eqb a b
    go (an_event h p) (an_event k q) = ap₂ same_input p q
    go (an_event h p) (a_gate k l q) = ap₂ same_input p q ∙ apart (λ r. omega arith)
    go (an_event h p) (failed_event k l q) = ap₂ same_input p q ∙ apart (λ r. omega arith)
    go (an_event h p) (sound_event k q) = ap₂ same_input p q ∙ apart (λ r. omega arith)
    go (a_gate h m p) (an_event k q) = ap₂ same_input p q ∙ apart (λ r. omega arith)
    go (a_gate h m p) (a_gate k l q) = ap₂ same_input p q ∙ behind gates_from h k
    go (a_gate h m p) (failed_event k l q) = ap₂ same_input p q ∙ apart (λ r. omega arith)
    go (a_gate h m p) (sound_event k q) = ap₂ same_input p q ∙ apart (λ r. omega arith)
    go (failed_event h m p) (an_event k q) = ap₂ same_input p q ∙ apart (λ r. omega arith)
    go (failed_event h m p) (a_gate k l q) = ap₂ same_input p q ∙ apart (λ r. omega arith)
    go (failed_event h m p) (failed_event k l q) = ap₂ same_input p q ∙ and_true (eqb (a - failed_from) (b - failed_from)) ∙ behind failed_from h k
    go (failed_event h m p) (sound_event k q) = ap₂ same_input p q ∙ and_false (eqb (a - failed_from) (b - sound_from)) ∙ apart (λ r. omega arith)
    go (sound_event h p) (an_event k q) = ap₂ same_input p q ∙ apart (λ r. omega arith)
    go (sound_event h p) (a_gate k l q) = ap₂ same_input p q ∙ apart (λ r. omega arith)
    go (sound_event h p) (failed_event k l q) = ap₂ same_input p q ∙ and_false (eqb (a - sound_from) (b - failed_from)) ∙ apart (λ r. omega arith)
    go (sound_event h p) (sound_event k q) = ap₂ same_input p q ∙ and_true (eqb (a - sound_from) (b - sound_from)) ∙ behind sound_from h k

-- THE DISTINCT INPUTS are those of the distinct numbers
pub distinct_inputs_lem : (cs : List ℕ) → distinct_inputs (map input_of cs) ≡ map input_of (distinct_codes cs)
distinct_inputs_lem cs = firsts_map eqb same_input input_of cs (λ a b k l. same_code a b)

-- their events are below n where all are
keep_below : (n : ℕ) (t : Input → Bool) (is : List Input) → InputsBelow n is → InputsBelow n (keep t is)
keep_below n t [] b = tt
keep_below n t (i ∷ is) b = go (t i) (keep_below n t is b.1)
  where
    go : (c : Bool) → InputsBelow n (keep t is) → InputsBelow n (cond c (i ∷ keep t is) (keep t is))
    go true r = (b.0, r)
    go false r = r

pub distinct_below : (n : ℕ) (is : List Input) → InputsBelow n is → InputsBelow n (distinct_inputs is)
distinct_below n [] b = tt
distinct_below n (i ∷ is) b = (b.0, keep_below n (λ j. not (same_input i j)) (distinct_inputs is) (distinct_below n is b.1))
