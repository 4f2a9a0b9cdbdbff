-- When a record is not refused: what the rules ask of the state, of the record's numbers, and of nothing else.
-- Assumes nothing.
use mathlib.Core.Path.{◌≡◌, refl}
use mathlib.Core.Bool.{Bool, true, false}
use Prim.Native.Nat.{ℕ, ◌+◌, ◌-◌, ◌≤◌, ◌<◌}
use native.Mathlib.Omega.{arith}
use lib.Dec.{ltb, leb, eqb}
use borrow.Author.Tests.{ltb-true, ltb-false, leb-true, eqb-true, eqb-false, le-ltb, ne_eqb}
use Rattle.paper.specs.Limits.{limits, wide_from, billion}
use Rattle.paper.specs.Flat.{gates_from}
use Rattle.rules.specs.Rules.{wrong_k, mixed, event_step, gate_step, end_step, admit_of, Fits}
use Rattle.std.specs.Prelude.{if◌then◌else◌, Result, Ok, Err}
use Rattle.rules.specs.Format.{event_in}
use Rattle.judging.specs.Bytes.{input_record, gate_record}
use Rattle.rules.specs.declared.Refusal.{Refusal}
use Rattle.rules.specs.declared.format.Record.{Record}
use Rattle.rules.specs.declared.judge.State.{State}
use Rattle.rules.specs.declared.judge.Step.{Step}
use Rattle.rules.specs.declared.judge.Step.TheVariants.{AddEvent, AddGate, AddInput, Close}
use Rattle.rules.proofs.Cases.{if_elim}

abbrev pub Welcome : Result Step Refusal → Type 0
Welcome (Ok (AddEvent c site sited next)) = Unit {0}
Welcome (Ok (AddGate kind k n next)) = Unit {0}
Welcome (Ok (AddInput i next)) = Unit {0}
Welcome (Ok Close) = Unit {0}
Welcome (Err a) = ⊥

-- k is right, in a gate that has one
pub not_wrong : (kind k n : ℕ) → (kind ≡ 4 → (1 ≤ k) × (k ≤ n)) → wrong_k kind k n ≡ false
not_wrong kind k n h =
    let P : Bool → Type 0 = λ b. b ≡ false in
    if_elim P (eqb kind 4)
    (λ e. let (low, high) = h (eqb-true kind 4 e) in rw (ne_eqb k 0 (λ z. omega arith)) (le-ltb n k high))
    (λ _. refl)

-- an event of the form of those before it
form_kept : (a b : Bool) → a ≡ b → (if a then (if b then false else true) else b) ≡ false
form_kept true true e = refl
form_kept true false e = let z : ◌≡◌ {A = ℕ} 0 1 = cc in absurd (omega arith)
form_kept false true e = let z : ◌≡◌ {A = ℕ} 0 1 = cc in absurd (omega arith)
form_kept false false e = refl

pub not_mixed : (s : State) (sited : Bool) → (0 < s.events → s.sited ≡ sited) → mixed s sited ≡ false
not_mixed s sited same =
    if_elim (λ (x : Bool). x ≡ false) (eqb s.events 0) (λ _. refl) (λ e. form_kept s.sited sited (same (omega (arith, eqb-false s.events 0 e))))

module _ (s : State) (after : ℕ) where
  event_fits : (c site : ℕ) (sited : Bool) → s.gates ≡ 0 → (0 < s.events → s.sited ≡ sited) → s.events < limits.events → c ≤ billion
      → Welcome (event_step limits s after c site sited)
  event_fits c site sited none same few h =
      rw (not_mixed s sited same)
      (if_elim Welcome (ltb 0 s.gates) (λ e. absurd (omega (arith, ltb-true 0 s.gates e)))
      (λ _. if_elim Welcome (leb limits.events s.events) (λ e. absurd (omega (arith, leb-true limits.events s.events e)))
      (λ _. if_elim Welcome (ltb billion c) (λ e. absurd (omega (arith, ltb-true billion c e))) (λ _. tt))))

  pub gate_welcome : (kind k n : ℕ) → s.left ≡ 0 → s.gates < limits.gates → 1 ≤ n → n ≤ limits.inputs → s.inputs + n ≤ limits.in_all
      → Welcome (gate_step limits s after kind k n)
  gate_welcome kind k n none few some small room =
      if_elim Welcome (ltb 0 s.left) (λ e. absurd (omega (arith, ltb-true 0 s.left e)))
      (λ _. if_elim Welcome (leb limits.gates s.gates) (λ e. absurd (omega (arith, leb-true limits.gates s.gates e)))
      (λ _. if_elim Welcome (eqb n 0) (λ e. absurd (omega (arith, eqb-true n 0 e)))
      (λ _. if_elim Welcome (ltb limits.inputs n) (λ e. absurd (omega (arith, ltb-true limits.inputs n e)))
      (λ _. if_elim Welcome (ltb limits.in_all (s.inputs + n)) (λ e. absurd (omega (arith, ltb-true limits.in_all (s.inputs + n) e))) (λ _. tt)))))

module _ (s : State) (len : ℕ) where
  pub event_welcome : (c site : ℕ) (sited : Bool) → s.gates ≡ 0 → (0 < s.events → s.sited ≡ sited) → s.events < limits.events → c ≤ billion
      → Welcome (admit_of limits len s (event_in sited c site))
  event_welcome c site true none same few h = event_fits s _ c site true none same few h
  event_welcome c site false none same few h = event_fits s _ c 0 false none same few h

  -- an input that fits the last gate
  pub input_welcome : (code : ℕ) → 0 < s.left → 0 < s.gates → Fits s.events (s.gates - 1) code → Welcome (admit_of limits len s (input_record code))
  input_welcome code some gates fits =
      let P : Record → Type 0 = λ r. Welcome (admit_of limits len s r) in
      if_elim P (ltb code wide_from)
      (λ low. if_elim Welcome (eqb s.left 0) (λ e. absurd (omega (arith, eqb-true s.left 0 e)))
      (λ _. if_elim Welcome (leb s.events code) (λ e. absurd (omega (arith, leb-true s.events code e, fits.event (omega (arith, ltb-true code wide_from low))))) (λ _. tt)))
      (λ wide. if_elim P (ltb code gates_from)
      (λ low. if_elim Welcome (eqb s.left 0) (λ e. absurd (omega (arith, eqb-true s.left 0 e)))
      (λ _. if_elim Welcome (ltb code wide_from) (λ e. absurd (omega (arith, ltb-true code wide_from e, ltb-false code wide_from wide)))
      (λ _. if_elim Welcome (leb s.events code) (λ e. absurd (omega (arith, leb-true s.events code e, fits.event (ltb-true code gates_from low)))) (λ _. tt))))
      (λ high. if_elim Welcome (eqb s.left 0) (λ e. absurd (omega (arith, eqb-true s.left 0 e)))
      (λ _. if_elim Welcome (leb s.gates (code - gates_from + 1))
      (λ e. absurd (omega (arith, leb-true s.gates (code - gates_from + 1) e, ltb-false code gates_from high, fits.below))) (λ _. tt))))

  -- a gate of one of the three kinds
  pub kind_welcome : (kind k n : ℕ) → (2 ≤ kind) × (kind ≤ 4) → s.left ≡ 0 → s.gates < limits.gates → 1 ≤ n → n ≤ limits.inputs
      → s.inputs + n ≤ limits.in_all → Welcome (admit_of limits len s (gate_record kind k n))
  kind_welcome kind k n (low, high) none few some small room =
      let P : Record → Type 0 = λ r. Welcome (admit_of limits len s r) in
      if_elim P (eqb kind 2) (λ _. gate_welcome s _ 2 0 n none few some small room)
      (λ a. if_elim P (eqb kind 3) (λ _. gate_welcome s _ 3 0 n none few some small room)
      (λ b. if_elim P (eqb kind 4) (λ _. gate_welcome s _ 4 k n none few some small room)
      (λ d. absurd (omega (arith, eqb-false kind 2 a, eqb-false kind 3 b, eqb-false kind 4 d)))))

  pub end_welcome : s.left ≡ 0 → len ≤ s.at + 1 → 0 < s.events → 0 < s.gates → Welcome (end_step len s (s.at + 1))
  end_welcome none short events gates =
      if_elim Welcome (ltb 0 s.left) (λ e. absurd (omega (arith, ltb-true 0 s.left e)))
      (λ _. if_elim Welcome (ltb (s.at + 1) len) (λ e. absurd (omega (arith, ltb-true (s.at + 1) len e)))
      (λ _. if_elim Welcome (eqb s.events 0) (λ e. absurd (omega (arith, eqb-true s.events 0 e)))
      (λ _. if_elim Welcome (eqb s.gates 0) (λ e. absurd (omega (arith, eqb-true s.gates 0 e))) (λ _. tt))))
