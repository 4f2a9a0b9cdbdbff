-- The lines of gates.
-- Assumes nothing.
use mathlib.Core.Path.{◌≡◌, refl, sym, ap, ap₂, ◌∙◌}
use mathlib.Core.Bool.{Bool, true, false, cond}
use mathlib.Core.List.{List, [], ◌∷◌, ◌++◌, map, append_assoc}
use Prim.Native.Nat.{ℕ, ◌+◌, ◌*◌, ◌≤◌, ◌<◌}
use native.Mathlib.Numerals.{add-one}
use native.Mathlib.Omega.{arith}
use lib.Dec.{eqb}
use lib.ListN.{length, get_or, take, drop, drop_of_length-le}
use lib.Seq.{slice-cons, drop-drop, length-take-le}
use Rattle.paper.specs.Lists.{sum}
use Rattle.paper.specs.Trees.{Input, Gate, and_g, or_g, least_g}
use Rattle.paper.specs.Flat.{gate_of, gates_of}
use Rattle.paper.specs.Grammar.{equals}
use Rattle.paper.specs.Texts.{line_feed}
use Rattle.paper.specs.Importing.{inputs_to}
use Rattle.paper.specs.Exporting.{decimal, gate_name, input_name, right_side, gate_line, gate_lines}
use Rattle.records.proofs.Sums.{sum_take, sum_rises}
use Rattle.exporting.specs.Laying.{Laid, inputs_from, gate_in, right_of, Inputs, Planned}
use Rattle.exporting.proofs.Laying.{Part, part_none, part_more, part_end}

-- ---- one line

inputs_of : (kind k : ℕ) (is : List Input) → inputs_to (gate_of kind k is) ≡ is
inputs_of kind k is = go (eqb kind 2) (eqb kind 3)
  where
    go : (b c : Bool) → inputs_to (cond b (and_g is) (cond c (or_g is) (least_g k is))) ≡ is
    go true c = refl
    go false true = refl
    go false false = refl

pub gate_line_lem : (g kind k : ℕ) (inputs : List ℕ) (first n : ℕ)
    → gate_line g (gate_in kind k inputs first n) ≡ (103 ∷ []) ++ decimal g ++ equals ++ right_of kind k inputs first n ++ line_feed
unfolding gate_line gate_name right_of
gate_line_lem g kind k inputs first n =
    let x : Gate = gate_in kind k inputs first n in
    let r : List ℕ = right_side x (map input_name (inputs_from inputs first n)) in
    ap (λ (is : List Input). gate_name g ++ (equals ++ (right_side x (map input_name is) ++ line_feed))) (inputs_of kind k (inputs_from inputs first n))
    ∙ sym (append_assoc ((103 ∷ []) ++ decimal g ++ equals) r line_feed ∙ append_assoc ((103 ∷ []) ++ decimal g) equals (r ++ line_feed))

-- ---- all of them

module _ (kinds leasts sizes inputs : List ℕ) (gates : ℕ) where
  -- the lines from gate g on, whose inputs start at `first`
  abbrev pub lines_from : ℕ → ℕ → List ℕ
  lines_from g first = gate_lines g (gates_of kinds leasts g (drop g (take gates sizes)) (drop first inputs))

  next_line : (g first : ℕ) → g < gates → gates ≤ length sizes
      → lines_from g first ≡ gate_line g (gate_in (get_or kinds g 0) (get_or leasts g 0) inputs first (get_or sizes g 0)) ++ lines_from (g + 1) (first + get_or sizes g 0)
  unfolding gate_lines gates_of
  next_line g first h l =
      let n : ℕ = get_or sizes g 0 in
      ap (λ (x : List ℕ). gate_lines g (gates_of kinds leasts g x (drop first inputs))) (slice-cons g gates sizes 0 h l)
      ∙ ap₂ (λ (i : ℕ) (x : List ℕ). gate_line g (gate_in (get_or kinds g 0) (get_or leasts g 0) inputs first n) ++ gate_lines i (gates_of kinds leasts (g + 1) (drop i (take gates sizes)) x)) (sym (add-one g)) (drop-drop n first inputs)

  no_line : (g first : ℕ) → gates ≤ g → gates ≤ length sizes → lines_from g first ≡ []
  unfolding gate_lines gates_of
  no_line g first h l =
      let m = length-take-le gates sizes l in
      let k : length (take gates sizes) ≤ g = omega arith in
      ap (λ (x : List ℕ). gate_lines g (gates_of kinds leasts g x (drop first inputs))) (drop_of_length-le (take gates sizes) k)

-- the lines of g gates are laid
pub record Gated (room kinds leasts sizes inputs : List ℕ) (gates : ℕ) (room' : List ℕ) (at first g : ℕ) : Type 0 where
  pub plan : Planned sizes inputs gates
  pub low : g ≤ gates
  pub near : at ≤ 2100 * g
  pub start : first ≡ sum (take g sizes)
  pub part : Part (lines_from kinds leasts sizes inputs gates 0 0) room 0 (lines_from kinds leasts sizes inputs gates g first) room' at

pub gates_start : (room kinds leasts sizes inputs : List ℕ) (gates : ℕ) → Planned sizes inputs gates → Gated room kinds leasts sizes inputs gates room 0 0 0
gates_start room kinds leasts sizes inputs gates p =
    record { plan = p; low = omega arith; near = omega arith; start = refl; part = part_none (lines_from kinds leasts sizes inputs gates 0 0) room 0 }

module _ {room kinds leasts sizes inputs : List ℕ} {gates : ℕ} {room' : List ℕ} {at first g : ℕ} (v : Gated room kinds leasts sizes inputs gates room' at first g) where
  enough : gates ≤ length sizes
  enough = let f = v.plan.few in omega (arith, v.plan.long)

  pub gates_low : at + 2100 ≤ 1000000000
  gates_low = let f = v.plan.few in omega (arith, v.near, v.low)

  module _ (h : g < gates) where
    pub gates_inputs : Inputs inputs first (get_or sizes g 0)
    gates_inputs =
        let (some, few) = v.plan.each g h in
        let e = enough in
        let s = sum_take sizes g (omega arith) in
        let r = sum_rises sizes (g + 1) gates (omega arith) in
        let a = v.plan.all in
        record { long = v.plan.wide; some = some; few = few; inside = omega (arith, v.start) }

    pub gates_more : {room'' : List ℕ} {at'' : ℕ}
        → Laid room' at (gate_line g (gate_in (get_or kinds g 0) (get_or leasts g 0) inputs first (get_or sizes g 0))) room'' at'' × (at'' ≤ at + 2100)
        → Gated room kinds leasts sizes inputs gates room'' at'' (first + get_or sizes g 0) (g + 1)
    gates_more (p, near) =
        let e = enough in
        let s = sum_take sizes g (omega arith) in
        record {
          plan = v.plan;
          low = omega arith;
          near = omega (arith, v.near);
          start = omega (arith, v.start);
          part = part_more v.part (next_line kinds leasts sizes inputs gates g first h e) p;
        }

  pub gates_end : gates ≤ g → Laid room 0 (gate_lines 0 (gates_of kinds leasts 0 (take gates sizes) inputs)) room' at × (at ≤ 2000000)
  gates_end h = (part_end v.part (no_line kinds leasts sizes inputs gates g first h enough), let f = v.plan.few in omega (arith, v.near, v.low))
