-- The gates of a tree, one by one: the tree in memory, and what one gate more adds to the diagrams and to the steps.
-- Assumes nothing.
use mathlib.Core.Path.{◌≡◌, refl, sym, ap, ap₂, ◌∙◌, subst}
use mathlib.Core.List.{List, [], ◌∷◌, ◌++◌, map, append_assoc, append-nil}
use Prim.Native.Nat.{ℕ, zero, suc, ◌+◌, ◌-◌, ◌≤◌, ◌<◌}
use native.Mathlib.Omega.{arith}
use native.Mathlib.Numerals.{add-one}
use lib.ListN.{length, take, drop, get_or, length-drop}
use lib.Seq.{take-suc, drop-drop, length-take-le, get_or-take, get_or-drop}
use Rattle.paper.specs.Lists.{sum}
use Rattle.paper.specs.Limits.{limits}
use Rattle.paper.specs.Trees.{Gate, and_g}
use Rattle.paper.specs.Steps.{values_from, steps_from}
use Rattle.paper.specs.Diagrams.{Diagram, leaf}
use Rattle.algebra.specs.Operations.{join_d, event_d, gate_diagrams, step_diagrams}
use Rattle.std.specs.Prelude.{Result}
use Rattle.store.specs.declared.Built.{Built}
use Rattle.store.specs.declared.Full.{Full}
use Rattle.gates.specs.Rules.{value_d, steps_d}
use Rattle.paper.specs.Flat.{input_of, gate_of, gates_of}
use Rattle.build.specs.Memory.{start_of, gate_at, Plan}
use Rattle.atleast.specs.Making.{Gains}
use Rattle.gates.specs.Rows.{Own}

-- ---- in memory

pub gates_length : (kinds leasts : List ℕ) (g : ℕ) (sizes inputs : List ℕ) → length (gates_of kinds leasts g sizes inputs) ≡ length sizes
unfolding gates_of
gates_length kinds leasts g [] inputs = refl
gates_length kinds leasts g (n ∷ sizes) inputs = ap suc (gates_length kinds leasts (g + 1) sizes (drop n inputs))

gates_at : (kinds leasts : List ℕ) (b : ℕ) (sizes inputs : List ℕ) (g : ℕ) (d : Gate) → g < length sizes
    → get_or (gates_of kinds leasts b sizes inputs) g d ≡ gate_of (get_or kinds (b + g) 0) (get_or leasts (b + g) 0) (map input_of (take (get_or sizes g 0) (drop (start_of sizes g) inputs)))
unfolding gates_of
gates_at kinds leasts b [] inputs g d h = absurd (omega arith)
gates_at kinds leasts b (n ∷ sizes) inputs zero d h =
    let q : b ≡ b + 0 = omega arith in
    ap (λ b. gate_of (get_or kinds b 0) (get_or leasts b 0) (map input_of (take n inputs))) q
gates_at kinds leasts b (n ∷ sizes) inputs (suc g) d h =
    let q : b + 1 + g ≡ b + suc g = omega arith in
    gates_at kinds leasts (b + 1) sizes (drop n inputs) g d (omega arith)
    ∙ ap₂ (λ b is. gate_of (get_or kinds b 0) (get_or leasts b 0) (map input_of (take (get_or sizes g 0) is))) q (drop-drop (start_of sizes g) n inputs)

module _ (kinds leasts sizes inputs : List ℕ) (g : ℕ) (h : g < length sizes) where
  pub gates_next : take (g + 1) (gates_of kinds leasts 0 sizes inputs) ≡ take g (gates_of kinds leasts 0 sizes inputs) ++ (gate_at kinds leasts sizes inputs g ∷ [])
  gates_next =
      let t = gates_of kinds leasts 0 sizes inputs in
      let l : g < length t = let e = gates_length kinds leasts 0 sizes inputs in omega arith in
      let z : 0 + g ≡ g = omega arith in
      let d = and_g [] in
      ap (λ k. take k t) (add-one g) ∙ take-suc t g d l
      ∙ ap (λ x. take g t ++ (x ∷ [])) (gates_at kinds leasts 0 sizes inputs g d h
      ∙ ap (λ b. gate_of (get_or kinds b 0) (get_or leasts b 0) (map input_of (take (get_or sizes g 0) (drop (start_of sizes g) inputs)))) z)

-- where the next gate's inputs start
pub sum_next : (sizes : List ℕ) (g : ℕ) → g < length sizes → start_of sizes (g + 1) ≡ start_of sizes g + get_or sizes g 0
sum_next sizes g h = ap (start_of sizes) (add-one g) ∙ go sizes g h
  where
    go : (sizes : List ℕ) (g : ℕ) → g < length sizes → start_of sizes (suc g) ≡ start_of sizes g + get_or sizes g 0
    go [] g h = absurd (omega arith)
    go (n ∷ sizes) zero h = omega arith
    go (n ∷ sizes) (suc g) h = let r = go sizes g (omega arith) in omega arith

pub sum_front : (sizes : List ℕ) (g : ℕ) → start_of sizes g ≤ sum sizes
sum_front [] zero = omega arith
sum_front [] (suc g) = omega arith
sum_front (n ∷ sizes) zero = omega arith
sum_front (n ∷ sizes) (suc g) = let r = sum_front sizes g in omega arith

-- the inputs of gate g, as they are lent
module _ {kinds leasts sizes inputs : List ℕ} (p : Plan kinds leasts sizes inputs) {g at : ℕ} (h : g < length sizes) (e : at ≡ start_of sizes g) where
  pub gate_fits : at + get_or sizes g 0 ≤ length inputs
  gate_fits = let a = sum_next sizes g h in let b = sum_front sizes (g + 1) in let c = p.has_inputs in omega arith

  short : at + get_or sizes g 0 - at ≡ get_or sizes g 0
  short = omega arith

  abbrev own : List ℕ
  own = take (at + get_or sizes g 0 - at) (drop at inputs)

  own_long : length own ≡ get_or sizes g 0
  own_long = ap (λ n. length (take n (drop at inputs))) short
      ∙ length-take-le (get_or sizes g 0) (drop at inputs) (let l = length-drop at inputs in let f = gate_fits in omega arith)

  pub gate_own : (gates : List ℕ) → length sizes ≤ length gates → Own gates (take (at + get_or sizes g 0 - at) (drop at inputs))
  gate_own gates l = let long = own_long in record {
    some = let a = p.some g h in omega arith;
    few = let a = p.few g h in omega arith;
    earlier = λ j m low.
        let b : j < get_or sizes g 0 = omega arith in
        let q : get_or own j 0 ≡ get_or inputs (start_of sizes g + j) 0 =
        get_or-take (at + get_or sizes g 0 - at) (drop at inputs) j 0 (let s = short in omega arith) ∙ get_or-drop at inputs j 0 ∙ ap (λ i. get_or inputs (i + j) 0) e in
        let c = p.earlier g j h b (omega arith) in
        omega arith;
  }

  pub gate_least : get_or leasts g 0 ≤ limits.inputs
  gate_least = let a = p.least g h in let b = p.few g h in omega arith

  own_is : own ≡ take (get_or sizes g 0) (drop (start_of sizes g) inputs)
  own_is = ap₂ (λ n i. take n (drop i inputs)) short e

  pub gate_is : (gs : List Diagram) (T : List ℕ) (c : ℕ) (T' H' X' M' : List ℕ) (r : Result Built Full)
      → Gains (steps_d gs (gate_of (get_or kinds g 0) (get_or leasts g 0) (map input_of (take (at + get_or sizes g 0 - at) (drop at inputs)))))
      (value_d gs (gate_of (get_or kinds g 0) (get_or leasts g 0) (map input_of (take (at + get_or sizes g 0 - at) (drop at inputs))))) T c T' H' X' M' r
      → Gains (steps_d gs (gate_at kinds leasts sizes inputs g)) (value_d gs (gate_at kinds leasts sizes inputs g)) T c T' H' X' M' r
  gate_is gs T c T' H' X' M' r b =
      subst (λ is. Gains (steps_d gs (gate_of (get_or kinds g 0) (get_or leasts g 0) (map input_of is))) (value_d gs (gate_of (get_or kinds g 0) (get_or leasts g 0) (map input_of is))) T c T' H' X' M' r) own_is b

-- ---- one gate more

values_end : (gs : List Diagram) (t : List Gate) (g : Gate)
    → values_from event_d leaf join_d gs (t ++ (g ∷ [])) ≡ values_from event_d leaf join_d gs t ++ (value_d (values_from event_d leaf join_d gs t) g ∷ [])
values_end gs [] g = refl
values_end gs (x ∷ t) g = values_end (gs ++ (value_d gs x ∷ [])) t g

steps_end : (gs : List Diagram) (t : List Gate) (g : Gate)
    → steps_from event_d leaf join_d gs (t ++ (g ∷ [])) ≡ steps_from event_d leaf join_d gs t ++ steps_d (values_from event_d leaf join_d gs t) g
steps_end gs [] g = append-nil (steps_d gs g)
steps_end gs (x ∷ t) g = ap (λ r. steps_d gs x ++ r) (steps_end (gs ++ (value_d gs x ∷ [])) t g)
    ∙ sym (append_assoc (steps_d gs x) (steps_from event_d leaf join_d (gs ++ (value_d gs x ∷ [])) t) (steps_d (values_from event_d leaf join_d (gs ++ (value_d gs x ∷ [])) t) g))

pub diagrams_next : (t : List Gate) (g : Gate) → gate_diagrams (t ++ (g ∷ [])) ≡ gate_diagrams t ++ (value_d (gate_diagrams t) g ∷ [])
unfolding gate_diagrams
diagrams_next t g = values_end [] t g

pub steps_next : (t : List Gate) (g : Gate) → step_diagrams (t ++ (g ∷ [])) ≡ step_diagrams t ++ steps_d (gate_diagrams t) g
unfolding step_diagrams gate_diagrams
steps_next t g = steps_end [] t g

pub diagrams_length : (t : List Gate) → length (gate_diagrams t) ≡ length t
unfolding gate_diagrams
diagrams_length t = go [] t ∙ omega arith
  where
    go : (gs : List Diagram) (t : List Gate) → length (values_from event_d leaf join_d gs t) ≡ length gs + length t
    go gs [] = omega arith
    go gs (x ∷ t) = go (gs ++ (value_d gs x ∷ [])) t ∙ plus gs t (value_d gs x)
      where
        plus : (gs : List Diagram) (t : List Gate) (y : Diagram) → length (gs ++ (y ∷ [])) + length t ≡ length gs + suc (length t)
        plus [] t y = omega arith
        plus (g ∷ gs) t y = let r = plus gs t y in omega arith
