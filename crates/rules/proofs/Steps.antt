-- What a step tells of the state that it was taken in, and of the record.
-- Assumes nothing.
use mathlib.Core.Path.{◌≡◌, refl}
use mathlib.Core.Bool.{Bool, true, false}
use mathlib.Core.List.{List}
use Prim.Native.Nat.{ℕ, ◌+◌, ◌-◌, ◌≤◌, ◌<◌}
use native.Mathlib.Omega.{arith}
use lib.ListN.{length, drop, length-drop}
use lib.Dec.{ltb, leb, eqb}
use borrow.Author.Tests.{ltb-false, leb-false, eqb-false, ne_eqb}
use Rattle.paper.specs.Limits.{limits, wide_from, billion}
use Rattle.std.specs.Prelude.{if◌then◌else◌, Result, Ok, Err}
use Rattle.rules.specs.Format.{event_in, event_length, record_of, width_of}
use Rattle.paper.specs.Flat.{gates_from}
use Rattle.rules.specs.Rules.{mixed, event_step, gate_step, event_input_step, gate_input_step, wide_input_step, end_step, admit_of, step_of, Fits}
use Rattle.rules.specs.declared.Refusal.{Refusal}
use Rattle.rules.specs.declared.format.Record.{Record}
use Rattle.rules.specs.declared.format.Record.TheVariants.{Missing, Unknown, Short, Event, SitedEvent, Gate, EventInput, GateInput, WideInput, End}
use Rattle.rules.specs.declared.judge.State.{State}
use Rattle.rules.specs.declared.judge.Step.{Step}
use Rattle.rules.specs.declared.judge.Step.TheVariants.{AddEvent, AddGate, AddInput, Close}
use Rattle.rules.proofs.Cases.{if_elim, width_le, gate_small, event_width, event_small}

-- the input that a record names
abbrev pub code_of : Record → ℕ
code_of Missing = 0
code_of Unknown = 0
code_of Short = 0
code_of (Event c) = 0
code_of (SitedEvent c site) = 0
code_of (Gate kind k n) = 0
code_of (EventInput e) = e
code_of (GateInput g) = gates_from + g
code_of (WideInput e) = e
code_of End = 0

-- a record that is an input in a tree of n events: an event that is there, by two bytes only where one does not name it; or a gate
abbrev pub IsInput : ℕ → Record → Type 0
IsInput n Missing = ⊥
IsInput n Unknown = ⊥
IsInput n Short = ⊥
IsInput n (Event c) = ⊥
IsInput n (SitedEvent c site) = ⊥
IsInput n (Gate kind k m) = ⊥
IsInput n (EventInput e) = e < n
IsInput n (GateInput g) = Unit {0}
IsInput n (WideInput e) = (wide_from ≤ e) × (e < n)
IsInput n End = ⊥

pub input_small : (n : ℕ) (r : Record) → IsInput n r → (1 ≤ width_of r) × (width_of r ≤ 3)
input_small n Missing h = absurd h
input_small n Unknown h = absurd h
input_small n Short h = absurd h
input_small n (Event c) h = absurd h
input_small n (SitedEvent c site) h = absurd h
input_small n (Gate kind k m) h = absurd h
input_small n (EventInput e) h = (omega arith, omega arith)
input_small n (GateInput g) h = (omega arith, omega arith)
input_small n (WideInput e) h = (omega arith, omega arith)
input_small n End h = absurd h

pub record OnEvent (len : ℕ) (s : State) (r : Record) (c site : ℕ) (sited : Bool) (next : ℕ) : Type 0 where
  pub further : s.at < next
  pub inside : next ≤ len
  pub few : s.events < limits.events
  pub first : s.gates ≡ 0
  pub place : next ≡ s.at + width_of r
  pub shape : r ≡ event_in sited c site
  pub chance : c ≤ billion
  -- the events before it are of its form, and without a site it has site 0
  pub same : 0 < s.events → s.sited ≡ sited
  pub plain : sited ≡ false → site ≡ 0

pub record OnGate (len : ℕ) (s : State) (r : Record) (kind k n next : ℕ) : Type 0 where
  pub further : s.at < next
  pub inside : next ≤ len
  pub few : s.gates < limits.gates
  pub none : s.left ≡ 0
  pub some : 1 ≤ n
  pub small : n ≤ limits.inputs
  pub room : s.inputs + n ≤ limits.in_all
  pub place : next ≡ s.at + width_of r
  pub shape : r ≡ Gate kind k n

pub record OnInput (len : ℕ) (s : State) (r : Record) (i next : ℕ) : Type 0 where
  pub further : s.at < next
  pub inside : next ≤ len
  pub some : 0 < s.left
  pub place : next ≡ s.at + width_of r
  pub code : code_of r ≡ i
  pub input : IsInput s.events r
  pub fits : s.events ≤ gates_from → Fits s.events (s.gates - 1) i

pub record OnClose (len : ℕ) (s : State) (r : Record) : Type 0 where
  pub some_event : 0 < s.events
  pub some_gate : 0 < s.gates
  pub none : s.left ≡ 0
  pub short : len ≤ s.at + 1
  pub shape : r ≡ End

abbrev pub Sound : ℕ → State → Record → Result Step Refusal → Type 0
Sound len s r (Ok (AddEvent c site sited next)) = OnEvent len s r c site sited next
Sound len s r (Ok (AddGate kind k n next)) = OnGate len s r kind k n next
Sound len s r (Ok (AddInput i next)) = OnInput len s r i next
Sound len s r (Ok Close) = OnClose len s r
Sound len s r (Err a) = Unit {0}

-- events that are not mixed are of one form
one_form : (a b : Bool) → (if a then (if b then false else true) else b) ≡ false → a ≡ b
one_form true true e = refl
one_form true false e = let z : ◌≡◌ {A = ℕ} 0 1 = cc in absurd (omega arith)
one_form false true e = let z : ◌≡◌ {A = ℕ} 0 1 = cc in absurd (omega arith)
one_form false false e = refl

pub unmixed : (s : State) (sited : Bool) → mixed s sited ≡ false → 0 < s.events → s.sited ≡ sited
unmixed s sited e some = one_form s.sited sited (rw (ne_eqb s.events 0 (λ z. omega arith)) at e)

module _ (len : ℕ) (s : State) where
  sound_event : (c site : ℕ) (sited : Bool) → (sited ≡ false → site ≡ 0) → s.at + event_length sited ≤ len
      → Sound len s (event_in sited c site) (event_step limits s (s.at + event_length sited) c site sited)
  sound_event c site sited plain h =
      let P : Result Step Refusal → Type 0 = Sound len s (event_in sited c site) in
      if_elim P (ltb 0 s.gates) (λ _. tt)
      (λ e. if_elim P (mixed s sited) (λ _. tt)
      (λ m. if_elim P (leb limits.events s.events) (λ _. tt)
      (λ d. if_elim P (ltb billion c) (λ _. tt)
      (λ f. record {
        further = omega (arith, event_small sited);
        inside = h;
        few = leb-false limits.events s.events d;
        first = omega (arith, ltb-false 0 s.gates e);
        place = rw (event_width sited c site);
        shape = refl;
        chance = ltb-false billion c f;
        same = unmixed s sited m;
        plain = plain;
      }))))

  sound_gate : (kind k n : ℕ) → s.at + width_of (Gate kind k n) ≤ len → Sound len s (Gate kind k n) (gate_step limits s (s.at + width_of (Gate kind k n)) kind k n)
  sound_gate kind k n h =
      let P : Result Step Refusal → Type 0 = Sound len s (Gate kind k n) in
      if_elim P (ltb 0 s.left) (λ _. tt)
      (λ a. if_elim P (leb limits.gates s.gates) (λ _. tt)
      (λ b. if_elim P (eqb n 0) (λ _. tt)
      (λ z. if_elim P (ltb limits.inputs n) (λ _. tt)
      (λ m. if_elim P (ltb limits.in_all (s.inputs + n)) (λ _. tt)
      (λ d. record {
        further = omega (arith, gate_small kind k n);
        inside = h;
        few = leb-false limits.gates s.gates b;
        none = omega (arith, ltb-false 0 s.left a);
        some = omega (arith, eqb-false n 0 z);
        small = ltb-false limits.inputs n m;
        room = ltb-false limits.in_all (s.inputs + n) d;
        place = refl;
        shape = refl;
      })))))

  sound_event_input : (i : ℕ) → s.at + 2 ≤ len → Sound len s (EventInput i) (event_input_step s (s.at + 2) i)
  sound_event_input i h =
      let P : Result Step Refusal → Type 0 = Sound len s (EventInput i) in
      if_elim P (eqb s.left 0) (λ _. tt)
      (λ e. if_elim P (leb s.events i) (λ _. tt)
      (λ d. record {
        further = omega arith;
        inside = h;
        some = omega (arith, eqb-false s.left 0 e);
        place = refl;
        code = refl;
        input = leb-false s.events i d;
        fits = λ few. record { below = omega (arith, leb-false s.events i d); event = λ _. leb-false s.events i d };
      }))

  sound_gate_input : (g : ℕ) → s.at + 3 ≤ len → Sound len s (GateInput g) (gate_input_step s (s.at + 3) g)
  sound_gate_input g h =
      let P : Result Step Refusal → Type 0 = Sound len s (GateInput g) in
      if_elim P (eqb s.left 0) (λ _. tt)
      (λ e. if_elim P (leb s.gates (g + 1)) (λ _. tt)
      (λ d. record {
        further = omega arith;
        inside = h;
        some = omega (arith, eqb-false s.left 0 e);
        place = refl;
        code = refl;
        input = tt;
        fits = λ few. record { below = omega (arith, leb-false s.gates (g + 1) d); event = λ low. absurd (omega arith) };
      }))

  sound_wide_input : (i : ℕ) → s.at + 3 ≤ len → Sound len s (WideInput i) (wide_input_step s (s.at + 3) i)
  sound_wide_input i h =
      let P : Result Step Refusal → Type 0 = Sound len s (WideInput i) in
      if_elim P (eqb s.left 0) (λ _. tt)
      (λ e. if_elim P (ltb i wide_from) (λ _. tt)
      (λ w. if_elim P (leb s.events i) (λ _. tt)
      (λ d. record {
        further = omega arith;
        inside = h;
        some = omega (arith, eqb-false s.left 0 e);
        place = refl;
        code = refl;
        input = (ltb-false i wide_from w, leb-false s.events i d);
        fits = λ few. record { below = omega (arith, leb-false s.events i d); event = λ _. leb-false s.events i d };
      })))

  sound_end : Sound len s End (end_step len s (s.at + 1))
  sound_end =
      let P : Result Step Refusal → Type 0 = Sound len s End in
      if_elim P (ltb 0 s.left) (λ _. tt)
      (λ a. if_elim P (ltb (s.at + 1) len) (λ _. tt)
      (λ b. if_elim P (eqb s.events 0) (λ _. tt)
      (λ d. if_elim P (eqb s.gates 0) (λ _. tt)
      (λ e. record {
        some_event = omega (arith, eqb-false s.events 0 d);
        some_gate = omega (arith, eqb-false s.gates 0 e);
        none = omega (arith, ltb-false 0 s.left a);
        short = ltb-false (s.at + 1) len b;
        shape = refl;
      }))))

  pub sound : (r : Record) → s.at + width_of r ≤ len → Sound len s r (admit_of limits len s r)
  sound Missing h = tt
  sound Unknown h = tt
  sound Short h = tt
  sound (Event c) h = sound_event c 0 false (λ _. refl) h
  sound (SitedEvent c site) h = sound_event c site true (λ e. let z : ◌≡◌ {A = ℕ} 0 1 = cc in absurd (omega arith)) h
  sound (Gate kind k n) h = sound_gate kind k n h
  sound (EventInput e) h = sound_event_input e h
  sound (GateInput g) h = sound_gate_input g h
  sound (WideInput e) h = sound_wide_input e h
  sound End h = sound_end

pub sound_step : (bytes : List ℕ) (s : State) → s.at ≤ length bytes
    → Sound (length bytes) s (record_of limits (drop s.at bytes)) (step_of limits bytes s)
unfolding step_of
sound_step bytes s h =
    sound (length bytes) s (record_of limits (drop s.at bytes)) (omega (arith, width_le (drop s.at bytes), length-drop s.at bytes))
