-- What the search for unused items finds in a tree in memory, said of the book whose lists it holds.
-- Assumes nothing.
use mathlib.Core.Path.{◌≡◌, refl, sym, ap, ◌∙◌}
use mathlib.Core.Bool.{Bool, true, false}
use mathlib.Core.List.{List}
use Prim.Native.Nat.{ℕ, ◌-◌, ◌*◌, ◌≤◌, ◌<◌}
use native.Mathlib.Omega.{arith}
use lib.ListN.{length, get_or, take, length-take}
use mir.Val.{Fits}
use mir.Syntax.{w64}
use Rattle.std.specs.Prelude.{Option, Some, None, Ok, Result, Err, IsErrAnd}
use Rattle.paper.specs.Limits.{limits}
use Rattle.rules.specs.Answers.{verdict}
use Rattle.rules.specs.Format.{event_length}
use Rattle.rules.specs.Rules.{step_of}
use Rattle.paper.specs.Flat.{gates_from}
use Rattle.records.specs.Uses.{lowest_unused, unused_of}
use Rattle.records.specs.Judge.{Book, Outcome, refuse, accept, unused_by, close_of, answer_of, counts, outcome, judge}
use Rattle.records.specs.Memory.{in_memory}
use Rattle.records.specs.Inner.{Complete, Fronts, Ready, Seeks, Held, whole}
use Rattle.rules.specs.declared.Refusal.TheVariants.{Unused}
use Rattle.rules.specs.declared.Refusal.{Refusal}
use Rattle.rules.specs.declared.judge.State.{State}
use Rattle.rules.specs.declared.judge.Step.TheVariants.{Close}
use Rattle.records.specs.declared.Tree.{Tree}
use Rattle.records.proofs.Runs.{running_sound, running_close}
use Rattle.records.proofs.Standing.{Standing, held_memory, held_fronts}

-- the place of an event's record is far below the highest number
event_near : (sited : Bool) (i : ℕ) → i < limits.events → event_length sited * i ≤ 7 * limits.events
event_near true i h = omega arith
event_near false i h = omega arith

pub event_fits : (sited : Bool) {i n : ℕ} → n ≤ limits.events → i < n → Fits w64 (event_length sited * i)
event_fits sited {i} few h = record { fits = omega (arith, event_near sited i (omega arith)) }

module _ (sited : Bool) (n : ℕ) (sizes places inputs : List ℕ) where
  pub unused_event : {i : ℕ} → lowest_unused n 0 0 inputs ≡ Some i → Some (event_length sited * i) ≡ unused_of sited n sizes places inputs
  unfolding unused_of
  unused_event e = rw (e, unused_of)

  pub unused_gate : {g : ℕ} → lowest_unused n 0 0 inputs ≡ None → lowest_unused (length sizes - 1) 0 gates_from inputs ≡ Some g
      → Some (get_or places g 0) ≡ unused_of sited n sizes places inputs
  unfolding unused_of
  unused_gate e d = rw (e, d, unused_of)

  pub unused_none : lowest_unused n 0 0 inputs ≡ None → lowest_unused (length sizes - 1) 0 gates_from inputs ≡ None
      → None ≡ unused_of sited n sizes places inputs
  unfolding unused_of
  unused_none e d = rw (e, d, unused_of)

module _ {b : Book} {sizes places inputs : List ℕ} (h : Fronts b sizes places inputs) {s : State} (e : s ≡ counts b) where
  gates_are : s.gates ≡ length b.sizes
  gates_are = ap (λ (x : State). x.gates) e

  inputs_count : s.inputs ≡ length b.inputs
  inputs_count = ap (λ (x : State). x.inputs) e

  sizes_are : take s.gates sizes ≡ b.sizes
  sizes_are = rw gates_are h.sizes

  places_are : take s.gates places ≡ b.places
  places_are = rw gates_are h.places

  inputs_are : take s.inputs inputs ≡ b.inputs
  inputs_are = rw inputs_count h.inputs

  pub gates_fit : s.gates ≤ length sizes
  gates_fit = omega (arith, sym (length-take s.gates sizes) ∙ ap length sizes_are, gates_are)

  pub places_fit : s.gates ≤ length places
  places_fit = omega (arith, sym (length-take s.gates places) ∙ ap length places_are, gates_are, h.same_places)

  pub inputs_fit : s.inputs ≤ length inputs
  inputs_fit = omega (arith, sym (length-take s.inputs inputs) ∙ ap length inputs_are, inputs_count)

  abbrev sought : Option ℕ
  sought = unused_of s.sited s.events (take s.gates sizes) (take s.gates places) (take s.inputs inputs)

  pub complete : 1 ≤ length b.sizes → b.left ≡ 0 → Complete s.events (take s.gates sizes) (take s.gates places) (take s.inputs inputs)
  complete some none =
      rw (sizes_are, places_are, inputs_are, ap (λ (x : State). x.events) e)
      (record { few = h.few_events; some = some; few_gates = h.few_gates; placed = h.same_places; whole = omega (arith, h.total_inputs) })

  pub found : {r : Option ℕ} → r ≡ sought → r ≡ unused_by b
  found q = rw (← ap (λ (x : State). x.sited) e, ← ap (λ (x : State). x.events) e, ← sizes_are, ← places_are, ← inputs_are) q

pub closes_at : (b : Book) {p : ℕ} → Some p ≡ unused_by b → close_of b ≡ refuse (Unused p)
unfolding close_of
closes_at b q = rw (sym q, close_of)

pub closes_none : (b : Book) → None ≡ unused_by b → close_of b ≡ accept b
unfolding close_of
closes_none b q = rw (sym q, close_of)

pub closes_done : {b : Book} {t : Tree} {ps : List ℕ} → Held b t ps → {s : State} → s ≡ counts b → None ≡ unused_by b → Ok (whole t s) ≡ in_memory (close_of b)
unfolding in_memory
closes_done {b} h e q = rw (closes_none b q) (ap (λ (x : Tree). Ok x) (held_memory h e))

-- the end record is read: what the search asks, and what is answered then
module _ {bytes : List ℕ} {t : Tree} {ps : List ℕ} {s : State} (v : Standing bytes t ps s) (e : Ok Close ≡ step_of limits bytes s) where
  abbrev book : Book
  book = v.running.book

  abbrev fronts : Fronts book t.sizes ps t.inputs
  fronts = held_fronts v.held v.running.kept

  pub standing_ready : Ready t.sizes ps t.inputs s
  standing_ready =
      let k = running_sound v.running e in
      let q = v.running.state in
      (book, fronts, q, rw q at k.some_gate, rw q at k.none)

  module _ {f : Option ℕ} (h : Seeks t.sizes ps t.inputs s f) where
    pub standing_unused : {p : ℕ} → f ≡ Some p → outcome limits bytes ≡ refuse (Unused p)
    standing_unused q = running_close v.running e ∙ closes_at book (sym q ∙ h book fronts v.running.state)

    pub standing_done : f ≡ None → Ok (whole t s) ≡ in_memory (outcome limits bytes)
    standing_done q = closes_done v.held v.running.state (sym q ∙ h book fronts v.running.state) ∙ ap in_memory (sym (running_close v.running e))

-- what `?` passes on
pub passed_on : {T : Type 0} {r : Result T Refusal} {a : Refusal} → IsErrAnd r (λ e. e ≡ a) → r ≡ Err a
passed_on {r = Ok t} h = absurd h
passed_on {r = Err e} h = ap (λ x. Err x) h

pub refused_is : {a : Refusal} {o : Outcome} → o ≡ refuse a → Err a ≡ in_memory o
unfolding in_memory
refused_is e = rw e

answer_of_lem : (o : Outcome) → verdict (in_memory o) ≡ verdict (answer_of o)
unfolding in_memory
answer_of_lem (accept b) = refl
answer_of_lem (refuse a) = refl

-- what is answered has the paper's number and place
pub with_verdict : (bytes : List ℕ) {r : Result Tree Refusal} → r ≡ in_memory (outcome limits bytes) → (r ≡ in_memory (outcome limits bytes)) × (verdict r ≡ judge limits bytes)
unfolding judge
with_verdict bytes e = (e, ap (λ (x : Result Tree Refusal). verdict x) e ∙ answer_of_lem (outcome limits bytes))
