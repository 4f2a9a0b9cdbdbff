-- Past an input of a run: what number 5 asks of the arrays, and what it finds in them.
-- Assumes nothing.
use mathlib.Core.Path.{◌≡◌, sym, ap, ◌∙◌}
use mathlib.Core.List.{List}
use Prim.Native.Nat.{ℕ, ◌-◌, ◌≤◌}
use native.Mathlib.Omega.{arith}
use lib.ListN.{length, get_or, take}
use lib.Seq.{get_or-take}
use Rattle.std.specs.Prelude.{Ok}
use Rattle.paper.specs.Limits.{limits}
use Rattle.paper.specs.Lists.{sum}
use Rattle.rules.specs.Rules.{step_of}
use Rattle.rules.specs.States.{past_input}
use Rattle.rules.specs.declared.judge.State.{State}
use Rattle.rules.specs.declared.judge.Step.TheVariants.{AddInput}
use Rattle.records.specs.Thresholds.{starved_by}
use Rattle.records.specs.Judge.{Book, counts, add_input, starved, last_place}
use Rattle.records.specs.Memory.{pad}
use Rattle.records.specs.Inner.{Counted}
use Rattle.records.proofs.Pad.{length_▷, pad_get_d}
use Rattle.records.proofs.Sums.{some_sizes}
use Rattle.records.proofs.Starving.{LastTold, told_starved}
use Rattle.records.proofs.Runs.{Running, running_sound}

module _ {bytes : List ℕ} {s : State} (v : Running bytes s) {i next : ℕ} (e : Ok (AddInput i next) ≡ step_of limits bytes s) where
  abbrev b : Book
  b = v.book

  gates_are : s.gates ≡ length b.sizes
  gates_are = ap (λ (x : State). x.gates) v.state

  inputs_are : s.inputs ≡ length b.inputs
  inputs_are = ap (λ (x : State). x.inputs) v.state

  left_is : s.left ≡ b.left
  left_is = ap (λ (x : State). x.left) v.state

  -- an input is some gate's
  pub input_gate : 1 ≤ length b.sizes
  input_gate = some_sizes b.sizes (omega (arith, v.kept.wanted, (running_sound v e).some, left_is))

  pub counted_input : {sizes : List ℕ} → take (length b.sizes) sizes ≡ b.sizes → Counted sizes (past_input s next)
  counted_input {sizes} front =
      let g : ℕ = length b.sizes - 1 in
      let last : g ≡ s.gates - 1 = omega (arith, gates_are) in
      let size : get_or sizes g 0 ≡ get_or b.sizes g 0 = sym (get_or-take (length b.sizes) sizes g 0 (omega (arith, input_gate))) ∙ ap (λ (l : List ℕ). get_or l g 0) front in
      let small : get_or b.sizes g 0 ≤ limits.inputs = (v.kept.sizes g (omega (arith, input_gate))).1 in
      let all : sum (take s.gates sizes) ≡ sum b.sizes = ap (λ (n : ℕ). sum (take n sizes)) gates_are ∙ ap sum front in
      record {
        some = omega (arith, gates_are, input_gate);
        few = omega (arith, gates_are, v.kept.few_gates);
        small = rw (← last) (omega (arith, size, small));
        wanted = omega (arith, all, v.kept.wanted, inputs_are, left_is, (running_sound v e).some);
        room = omega (arith, v.kept.few_inputs, inputs_are, left_is, (running_sound v e).some);
      }

  pub starved_input : {kinds leasts sizes inputs : List ℕ} → LastTold (add_input b i next) kinds leasts sizes inputs
      → starved_by kinds leasts sizes inputs (past_input s next) ≡ starved (add_input b i next)
  starved_input {kinds} {leasts} {sizes} {inputs} told =
      let state : past_input s next ≡ counts (add_input b i next) = ap (λ (x : State). past_input x next) v.state ∙ rw length_▷ in
      ap (starved_by kinds leasts sizes inputs) state
      ∙ told_starved told input_gate (rw length_▷ (omega (arith, v.kept.wanted, (running_sound v e).some, left_is)))

  -- the gate's record has its place in the array
  pub place_in_lem : {places : List ℕ} → places ≡ pad limits.gates 0 b.places → get_or places (s.gates - 1) 0 ≡ last_place b
  place_in_lem {places} held =
      let last : s.gates - 1 ≡ length b.sizes - 1 = omega (arith, gates_are) in
      rw (held, last) (pad_get_d limits.gates 0 b.places (length b.sizes - 1) 0 (omega (arith, v.kept.same_places, input_gate)))
