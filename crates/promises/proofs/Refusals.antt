-- Bytes that are refused get a number from 1 to 8, or 21.
-- Assumes nothing.
use mathlib.Core.Path.{◌≡◌, refl, sym, subst}
use mathlib.Core.Logic.{◌≢◌, inl, inr}
use mathlib.Core.Bool.{Bool, true, false}
use mathlib.Core.List.{List}
use Prim.Native.Nat.{ℕ, zero, suc, ◌+◌, ◌≤◌, ◌<◌}
use native.Mathlib.Omega.{arith}
use lib.Dec.{ltb, leb, eqb}
use lib.ListN.{length, drop}
use Rattle.std.specs.Prelude.{Option, Some, None, Result, Ok, Err}
use Rattle.paper.specs.Limits.{limits, wide_from, billion}
use Rattle.paper.specs.Answers.{OfReading}
use Rattle.rules.specs.Answers.{reason}
use Rattle.rules.specs.Format.{record_of}
use Rattle.rules.specs.Rules.{mixed, event_step, admit_of, step_of}
use Rattle.records.specs.Judge.{Book, start, counts, add_event, add_gate, add_input, Outcome, accept, refuse, unused_by, close_of, next_step, run, outcome}
use Rattle.rules.specs.declared.Refusal.{Refusal}
use Rattle.rules.specs.declared.Refusal.TheVariants.{Unused}
use Rattle.rules.specs.declared.format.Record.{Record}
use Rattle.rules.specs.declared.format.Record.TheVariants.{Missing, Unknown, Short, Event, SitedEvent, Gate, EventInput, GateInput, WideInput, End}
use Rattle.rules.specs.declared.judge.State.{State}
use Rattle.rules.specs.declared.judge.Step.{Step}
use Rattle.rules.specs.declared.judge.Step.TheVariants.{AddEvent, AddGate, AddInput, Close}
use Rattle.rules.proofs.Cases.{if_elim}
use Rattle.records.proofs.Starving.{threshold_elim}
use Rattle.records.proofs.Runs.{run_event, run_gate, run_input, run_close, run_refused}

-- such a number is not 0, and above 8 it is 21
module _ (k : ℕ) where
  pub reading_some : OfReading k → k ≢ 0
  reading_some (inl (l, h)) e = omega arith
  reading_some (inr q) e = omega arith

  pub reading_one : OfReading k → 1 ≤ k
  reading_one (inl (l, h)) = l
  reading_one (inr q) = omega arith

  pub reading_few : OfReading k → 8 < k → k ≡ 21
  reading_few (inl (l, h)) m = absurd (omega arith)
  reading_few (inr q) m = q

-- what a step, or a reading, says if it refuses
abbrev InRange : Result Step Refusal → Type 0
InRange (Ok (AddEvent c site sited next)) = Unit {0}
InRange (Ok (AddGate kind k n next)) = Unit {0}
InRange (Ok (AddInput i next)) = Unit {0}
InRange (Ok Close) = Unit {0}
InRange (Err a) = OfReading (reason a).number

abbrev Ranged : Outcome → Type 0
Ranged (accept b) = Unit {0}
Ranged (refuse a) = OfReading (reason a).number

event_range : (s : State) (after c site : ℕ) (sited : Bool) → InRange (event_step limits s after c site sited)
event_range s after c site sited =
    if_elim InRange (ltb 0 s.gates) (λ _. inl (omega arith, omega arith))
    (λ _. if_elim InRange (mixed s sited) (λ _. inl (omega arith, omega arith))
    (λ _. if_elim InRange (leb limits.events s.events) (λ _. inl (omega arith, omega arith))
    (λ _. if_elim InRange (ltb billion c) (λ _. inl (omega arith, omega arith)) (λ _. tt))))

step_range : (len : ℕ) (s : State) (r : Record) → InRange (admit_of limits len s r)
step_range len s Missing = inl (omega arith, omega arith)
step_range len s Unknown = inl (omega arith, omega arith)
step_range len s Short = inl (omega arith, omega arith)
step_range len s (Event c) = event_range s _ c 0 false
step_range len s (SitedEvent c site) = event_range s _ c site true
step_range len s (Gate kind k n) =
    if_elim InRange (ltb 0 s.left) (λ _. inl (omega arith, omega arith))
    (λ _. if_elim InRange (leb limits.gates s.gates) (λ _. inl (omega arith, omega arith))
    (λ _. if_elim InRange (eqb n 0) (λ _. inl (omega arith, omega arith))
    (λ _. if_elim InRange (ltb limits.inputs n) (λ _. inl (omega arith, omega arith))
    (λ _. if_elim InRange (ltb limits.in_all (s.inputs + n)) (λ _. inl (omega arith, omega arith)) (λ _. tt)))))
step_range len s (EventInput e) =
    if_elim InRange (eqb s.left 0) (λ _. inl (omega arith, omega arith))
    (λ _. if_elim InRange (leb s.events e) (λ _. inl (omega arith, omega arith)) (λ _. tt))
step_range len s (GateInput g) =
    if_elim InRange (eqb s.left 0) (λ _. inl (omega arith, omega arith))
    (λ _. if_elim InRange (leb s.gates (g + 1)) (λ _. inl (omega arith, omega arith)) (λ _. tt))
step_range len s (WideInput e) =
    if_elim InRange (eqb s.left 0) (λ _. inl (omega arith, omega arith))
    (λ _. if_elim InRange (ltb e wide_from) (λ _. inr refl)
    (λ _. if_elim InRange (leb s.events e) (λ _. inl (omega arith, omega arith)) (λ _. tt)))
step_range len s End =
    if_elim InRange (ltb 0 s.left) (λ _. inl (omega arith, omega arith))
    (λ _. if_elim InRange (ltb (s.at + 1) len) (λ _. inl (omega arith, omega arith))
    (λ _. if_elim InRange (eqb s.events 0) (λ _. inl (omega arith, omega arith))
    (λ _. if_elim InRange (eqb s.gates 0) (λ _. inl (omega arith, omega arith)) (λ _. tt))))

-- by the record alone, or by 5 after a gate's last input
stepped : (bytes : List ℕ) (b : Book) → InRange (next_step limits bytes b)
unfolding next_step step_of
stepped bytes b = threshold_elim b InRange (λ p. inl (omega arith, omega arith)) (step_of limits bytes (counts b)) (step_range (length bytes) (counts b) (record_of limits (drop b.at bytes)))

closed : (b : Book) → Ranged (close_of b)
unfolding close_of
closed b = go (unused_by b)
  where
    go : (f : Option ℕ) → Ranged (elim f [ Some place ↦ refuse (Unused place) | None ↦ accept b ])
    go (Some p) = inl (omega arith, omega arith)
    go None = tt

running : (bytes : List ℕ) (turns : ℕ) (b : Book) → Ranged (run limits turns bytes b)
unfolding run
running bytes zero b = inl (omega arith, omega arith)
running bytes (suc turns) b = go (next_step limits bytes b) refl (stepped bytes b) (running bytes turns)
  where
    go : (x : Result Step Refusal) → next_step limits bytes b ≡ x → InRange x → ((b : Book) → Ranged (run limits turns bytes b)) → Ranged (run limits (suc turns) bytes b)
    go (Ok (AddEvent c site sited next)) q h on = subst Ranged (sym (run_event turns bytes b c site sited next q)) (on (add_event b c site sited next))
    go (Ok (AddGate kind k n next)) q h on = subst Ranged (sym (run_gate turns bytes b kind k n next q)) (on (add_gate b kind k n next))
    go (Ok (AddInput i next)) q h on = subst Ranged (sym (run_input turns bytes b i next q)) (on (add_input b i next))
    go (Ok Close) q h on = subst Ranged (sym (run_close turns bytes b q)) (closed b)
    go (Err a) q h on = subst Ranged (sym (run_refused turns bytes b a q)) h

pub refusal_range : (bytes : List ℕ) (w : Refusal) → outcome limits bytes ≡ refuse w → OfReading (reason w).number
unfolding outcome
refusal_range bytes w e = subst Ranged e (running bytes (length bytes + 1) start)
