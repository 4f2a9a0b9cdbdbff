-- A gate by its kind.
-- Assumes nothing.
use mathlib.Core.Path.{◌≡◌, refl, sym, ap, ap₂, ◌∙◌, subst, subst₂}
use mathlib.Core.Bool.{Bool, true, false, cond}
use mathlib.Core.List.{List, [], ◌∷◌, ◌++◌, map}
use Prim.Native.Nat.{ℕ, suc, ◌≤◌}
use native.Mathlib.Omega.{arith}
use lib.Dec.{eqb}
use lib.ListN.{length, get_or, take}
use lib.Seq.{get_or-take, length-take-le}
use Rattle.paper.specs.Trees.{Input, event, gate, forced, Gate, and_g, or_g, least_g, distinct_inputs}
use Rattle.paper.specs.Flat.{input_of, gate_of}
use Rattle.paper.specs.Diagrams.{Diagram, leaf}
use Rattle.algebra.proofs.Lists.{in_left}
use Rattle.tables.specs.Table.{den}
use Rattle.store.specs.Building.{PartOf, Found, Stops}
use Rattle.store.specs.declared.Built.{Built}
use Rattle.store.specs.declared.Full.{Full}
use Rattle.std.specs.Prelude.{Result, Ok, Err}
use Rattle.store.proofs.Building.{stops_more}
use Rattle.store.proofs.Memory.{memo_map}
use Rattle.joins.proofs.Recursion.{right_grown}
use Rattle.atleast.specs.Rules.{least_d, least_steps_d}
use Rattle.atleast.specs.Making.{Row, Within, Held, Gains}
use Rattle.atleast.proofs.Making.{row_map, made_seq, made_stops, part_more}
use Rattle.gates.specs.Kinds.{join_all_d, join_steps_d, kind_d, kind_steps_d}
use Rattle.gates.specs.Rules.{input_d, event_steps_d, value_d, steps_d, counted, over_d, over_steps_d}
use Rattle.gates.specs.Rows.{Own, Lined}
use Rattle.gates.proofs.Rows.{codes_long, events_tidy}

module _ (gs : List Diagram) (kind k : ℕ) (is : List Input) where
  value_kind : value_d gs (gate_of kind k is) ≡ over_d gs kind k (counted kind is)
  value_kind = go (eqb kind 2) (eqb kind 3)
    where
      go : (a b : Bool) → value_d gs (cond a (and_g is) (cond b (or_g is) (least_g k is)))
          ≡ (let ds = map (input_d gs) (cond a is (cond b is (distinct_inputs is))) in cond a (join_all_d false ds) (cond b (join_all_d true ds) (least_d k ds)))
      go true b = refl
      go false true = refl
      go false false = refl

  steps_kind : steps_d gs (gate_of kind k is) ≡ over_steps_d gs kind k (counted kind is)
  steps_kind = go (eqb kind 2) (eqb kind 3)
    where
      go : (a b : Bool) → steps_d gs (cond a (and_g is) (cond b (or_g is) (least_g k is)))
          ≡ (let js = cond a is (cond b is (distinct_inputs is)) in let ds = map (input_d gs) js in event_steps_d js ++ cond a (join_steps_d false ds) (cond b (join_steps_d true ds) (least_steps_d k ds)))
      go true b = refl
      go false true = refl
      go false false = refl

  -- A GATE over the inputs that count
  pub gains_counted : (T : List ℕ) (c : ℕ) (T' H' X' M' : List ℕ) (r : Result Built Full) (js : List Input) → js ≡ counted kind is
      → Gains (over_steps_d gs kind k js) (over_d gs kind k js) T c T' H' X' M' r → Gains (steps_d gs (gate_of kind k is)) (value_d gs (gate_of kind k is)) T c T' H' X' M' r
  gains_counted T c T' H' X' M' r js e g =
      subst₂ (λ ds D. Gains ds D T c T' H' X' M' r) (ap (over_steps_d gs kind k) e ∙ sym steps_kind) (ap (over_d gs kind k) e ∙ sym value_kind) g

-- gates before that are the same, one by one
module _ (gs hs : List Diagram) (same : (i : ℕ) → get_or gs i (leaf false) ≡ get_or hs i (leaf false)) where
  inputs_same : (is : List Input) → map (input_d gs) is ≡ map (input_d hs) is
  inputs_same [] = refl
  inputs_same (event e ∷ is) = ap (input_d gs (event e) ∷◌) (inputs_same is)
  inputs_same (gate i ∷ is) = ap₂ ◌∷◌ (same i) (inputs_same is)
  inputs_same (forced e b ∷ is) = ap (leaf b ∷◌) (inputs_same is)

  pub value_same : (g : Gate) → value_d gs g ≡ value_d hs g
  value_same (and_g is) = ap (join_all_d false) (inputs_same is)
  value_same (or_g is) = ap (join_all_d true) (inputs_same is)
  value_same (least_g k is) = ap (least_d k) (inputs_same (distinct_inputs is))

  pub steps_same : (g : Gate) → steps_d gs g ≡ steps_d hs g
  steps_same (and_g is) = ap (λ xs. event_steps_d is ++ join_steps_d false xs) (inputs_same is)
  steps_same (or_g is) = ap (λ xs. event_steps_d is ++ join_steps_d true xs) (inputs_same is)
  steps_same (least_g k is) = ap (λ xs. event_steps_d (distinct_inputs is) ++ least_steps_d k xs) (inputs_same (distinct_inputs is))

-- ---- a gate: its inputs, then its kind

module _ {T H X M : List ℕ} {c : ℕ} (G own : List ℕ) (h : Held T H X M c) (w : Own G own) {T₁ H₁ X₁ R : List ℕ} {c₁ : ℕ}
    (a : Lined (map (den T) G) (map input_of own) T c T₁ H₁ X₁ R c₁) where
  abbrev gs : List Diagram
  gs = map (den T) G

  abbrev is : List Input
  is = map input_of own

  pub gate_held : Held T₁ H₁ X₁ M c₁
  gate_held = record {
    store = a.made.step.store;
    tidy = events_tidy is h.store h.tidy a.made;
    memo = memo_map (right_grown h.store.lower a.made.step.grown) h.memo;
  }

  inputs_long : (is : List Input) → length (map (input_d gs) is) ≡ length is
  inputs_long [] = refl
  inputs_long (i ∷ is) = ap suc (inputs_long is)

  long : length (map (input_d gs) is) ≡ length own
  long = inputs_long is ∙ codes_long own

  pub row_fits : length own ≤ length R
  row_fits = let e = a.long in let f = w.few in omega arith

  pub row_long : length (take (length own) R) ≡ length own
  row_long = length-take-le (length own) R row_fits

  row : Row T₁ c₁ (map (input_d gs) is) (take (length own) R)
  row = record { each = λ j l. subst (Found T₁ c₁ (get_or (map (input_d gs) is) j (leaf false))) (sym (get_or-take (length own) R j 0 (let e = long in omega arith))) (a.row.each j l) }

  pub row_some : 1 ≤ length (take (length own) R)
  row_some = let e = row_long in let s = w.some in omega arith

  pub row_within : Within c₁ (take (length own) R)
  row_within = record { each = λ j l. (row.each j (let e = row_long in let f = long in omega arith)).within }

  is_row : map (den T₁) (take (length own) R) ≡ map (input_d gs) is
  is_row = row_map (row_long ∙ sym long) row

  module _ (kind k : ℕ) where
    pub gate_gains : (T₂ H₂ X₂ M₂ : List ℕ) (r : Result Built Full)
        → Gains (kind_steps_d kind k (map (den T₁) (take (length own) R))) (kind_d kind k (map (den T₁) (take (length own) R))) T₁ c₁ T₂ H₂ X₂ M₂ r
        → Gains (over_steps_d gs kind k is) (over_d gs kind k is) T c T₂ H₂ X₂ M₂ r
    gate_gains T₂ H₂ X₂ M₂ r g = go r (subst (λ ds. Gains (kind_steps_d kind k ds) (kind_d kind k ds) T₁ c₁ T₂ H₂ X₂ M₂ r) is_row g)
      where
        go : (r : Result Built Full) → Gains (kind_steps_d kind k (map (input_d gs) is)) (over_d gs kind k is) T₁ c₁ T₂ H₂ X₂ M₂ r → Gains (over_steps_d gs kind k is) (over_d gs kind k is) T c T₂ H₂ X₂ M₂ r
        go (Ok r) g = record { made = made_seq (kind_steps_d kind k (map (input_d gs) is)) a.made g.made; held = g.held; found = g.found }
        go (Err x) g = made_stops (kind_steps_d kind k (map (input_d gs) is)) a.made g

-- an event of its inputs does not fit
pub gate_short : (gs : List Diagram) (kind k : ℕ) (is : List Input) {T : List ℕ} {c : ℕ} {T₁ H₁ X₁ : List ℕ} {c₁ : ℕ}
    → Stops (PartOf (event_steps_d is)) T c T₁ H₁ X₁ c₁ → Stops (PartOf (over_steps_d gs kind k is)) T c T₁ H₁ X₁ c₁
gate_short gs kind k is s = stops_more (part_more (λ d h. in_left d (event_steps_d is) (kind_steps_d kind k (map (input_d gs) is)) h)) s
