-- A run over some bytes: what a step does to it, and where it stands at a state.
-- Assumes nothing.
use mathlib.Core.Path.{◌≡◌, refl, sym, ap, ◌∙◌}
use mathlib.Core.Bool.{Bool, true, false}
use mathlib.Core.List.{List}
use Prim.Native.Nat.{ℕ, zero, suc, ◌+◌, ◌-◌, ◌≤◌, ◌<◌}
use native.Mathlib.Numerals.{add-one}
use native.Mathlib.Omega.{arith}
use lib.ListN.{length, drop}
use Rattle.std.specs.Prelude.{Option, Some, None, Result, Ok, Err}
use Rattle.paper.specs.Limits.{Limits, limits}
use Rattle.rules.specs.Format.{record_of}
use Rattle.rules.specs.Rules.{step_of}
use Rattle.records.specs.Judge.{Book, start, counts, add_event, add_gate, add_input, starved, last_place, threshold_step, next_step, Outcome, accept, refuse, unused_by, close_of, run, outcome}
use Rattle.rules.specs.States.{past_event, past_gate, past_input, Bounded}
use Rattle.rules.specs.declared.Refusal.{Refusal}
use Rattle.rules.specs.declared.Refusal.TheVariants.{Threshold, Unused}
use Rattle.rules.specs.declared.judge.State.{State}
use Rattle.rules.specs.declared.judge.Step.{Step}
use Rattle.rules.specs.declared.judge.Step.TheVariants.{AddEvent, AddGate, AddInput, Close}
use Rattle.rules.proofs.Steps.{OnEvent, OnGate, OnInput, OnClose, Sound, sound_step}
use Rattle.records.proofs.Keeping.{Kept, kept_start, kept_event, kept_gate, kept_input, kept_bounded}
use Rattle.records.proofs.Pad.{length_▷}
use Rattle.records.proofs.Starving.{threshold_elim, threshold_fed}

-- what a step leads to, at any limits
abbrev pub onward : Limits → ℕ → List ℕ → Book → Result Step Refusal → Outcome
onward L turns bytes b (Ok (AddEvent c site sited next)) = run L turns bytes (add_event b c site sited next)
onward L turns bytes b (Ok (AddGate kind k n next)) = run L turns bytes (add_gate b kind k n next)
onward L turns bytes b (Ok (AddInput i next)) = run L turns bytes (add_input b i next)
onward L turns bytes b (Ok Close) = close_of b
onward L turns bytes b (Err a) = refuse a

pub run_step : (L : Limits) (turns : ℕ) (bytes : List ℕ) (b : Book) (x : Result Step Refusal) → next_step L bytes b ≡ x → run L (suc turns) bytes b ≡ onward L turns bytes b x
unfolding run
run_step L turns bytes b (Ok (AddEvent c site sited next)) e = rw (e, run)
run_step L turns bytes b (Ok (AddGate kind k n next)) e = rw (e, run)
run_step L turns bytes b (Ok (AddInput i next)) e = rw (e, run)
run_step L turns bytes b (Ok Close) e = rw (e, run)
run_step L turns bytes b (Err a) e = rw (e, run)

module _ (turns : ℕ) (bytes : List ℕ) (b : Book) where
  pub run_event : (c site : ℕ) (sited : Bool) (next : ℕ) → next_step limits bytes b ≡ Ok (AddEvent c site sited next) → run limits (suc turns) bytes b ≡ run limits turns bytes (add_event b c site sited next)
  run_event c site sited next e = run_step limits turns bytes b (Ok (AddEvent c site sited next)) e

  pub run_gate : (kind k n next : ℕ) → next_step limits bytes b ≡ Ok (AddGate kind k n next) → run limits (suc turns) bytes b ≡ run limits turns bytes (add_gate b kind k n next)
  run_gate kind k n next e = run_step limits turns bytes b (Ok (AddGate kind k n next)) e

  pub run_input : (i next : ℕ) → next_step limits bytes b ≡ Ok (AddInput i next) → run limits (suc turns) bytes b ≡ run limits turns bytes (add_input b i next)
  run_input i next e = run_step limits turns bytes b (Ok (AddInput i next)) e

  pub run_close : next_step limits bytes b ≡ Ok Close → run limits (suc turns) bytes b ≡ close_of b
  run_close e = run_step limits turns bytes b (Ok Close) e

  pub run_refused : (a : Refusal) → next_step limits bytes b ≡ Err a → run limits (suc turns) bytes b ≡ refuse a
  run_refused a e = run_step limits turns bytes b (Err a) e

pub record Running (bytes : List ℕ) (s : State) : Type 0 where
  pub book : Book
  pub turns : ℕ
  pub state : s ≡ counts book
  pub within : s.at ≤ length bytes
  pub enough : length bytes - s.at ≤ turns
  pub kept : Kept book
  pub same : run limits (suc turns) bytes book ≡ outcome limits bytes

unfoldable pub running_start : (bytes : List ℕ) → Running bytes (counts start)
unfolding outcome
running_start bytes = record { book = start; turns = length bytes; state = refl; within = omega arith; enough = omega arith; kept = kept_start; same = rw add-one }

module _ {bytes : List ℕ} {s : State} (v : Running bytes s) where
  pub more : (next : ℕ) → s.at < next → next ≤ length bytes → (turns : ℕ) × (v.turns ≡ suc turns) × (length bytes - next ≤ turns)
  more next l m = go v.turns v.enough
    where
      go : (n : ℕ) → length bytes - s.at ≤ n → (turns : ℕ) × (n ≡ suc turns) × (length bytes - next ≤ turns)
      go zero h = absurd (omega arith)
      go (suc n) h = (n, refl, omega arith)

  pub go_on : (b : Book) (turns : ℕ) → v.turns ≡ suc turns → run limits (suc v.turns) bytes v.book ≡ run limits v.turns bytes b → run limits (suc turns) bytes b ≡ outcome limits bytes
  go_on b turns e r = ap (λ (n : ℕ). run limits n bytes b) (sym e) ∙ sym r ∙ v.same

  pub step_is : {r : Result Step Refusal} → r ≡ step_of limits bytes s → next_step limits bytes v.book ≡ threshold_step v.book r
  unfolding next_step
  step_is e = ap (threshold_step v.book) (sym (e ∙ ap (step_of limits bytes) v.state))

  pub running_sound : {r : Result Step Refusal} → r ≡ step_of limits bytes s → Sound (length bytes) s (record_of limits (drop s.at bytes)) r
  running_sound e = rw e (sound_step bytes s v.within)

  unfoldable pub running_event : (c site : ℕ) (sited : Bool) (next : ℕ) → Ok (AddEvent c site sited next) ≡ step_of limits bytes s
      → Running bytes (past_event s sited next)
  running_event c site sited next e =
      let on = running_sound e in
      let (turns, d, k) = more next on.further on.inside in
      record {
        book = add_event v.book c site sited next;
        turns = turns;
        state = rw (v.state, length_▷);
        within = on.inside;
        enough = k;
        kept = kept_event v.kept (rw v.state at on);
        same = go_on _ turns d (run_event _ _ _ c site sited next (step_is e));
      }

  unfoldable pub running_gate : (kind k n next : ℕ) → Ok (AddGate kind k n next) ≡ step_of limits bytes s
      → Running bytes (past_gate s n next)
  running_gate kind k n next e =
      let on = running_sound e in
      let (turns, d, j) = more next on.further on.inside in
      record {
        book = add_gate v.book kind k n next;
        turns = turns;
        state = rw (v.state, length_▷);
        within = on.inside;
        enough = j;
        kept = kept_gate v.kept (drop v.book.at bytes) refl (rw v.state at on);
        same = go_on _ turns d (run_gate _ _ _ kind k n next (step_is e));
      }

  unfoldable pub running_input : (i next : ℕ) → Ok (AddInput i next) ≡ step_of limits bytes s → starved (add_input v.book i next) ≡ false
      → Running bytes (past_input s next)
  running_input i next e fed =
      let on = running_sound e in
      let (turns, d, j) = more next on.further on.inside in
      record {
        book = add_input v.book i next;
        turns = turns;
        state = rw (v.state, length_▷);
        within = on.inside;
        enough = j;
        kept = kept_input v.kept (rw v.state at on) fed;
        same = go_on _ turns d (run_input _ _ _ i next (step_is e ∙ rw fed));
      }

  -- the last gate has got its inputs, and its k is wrong
  pub running_starved : (i next : ℕ) → Ok (AddInput i next) ≡ step_of limits bytes s → starved (add_input v.book i next) ≡ true
      → outcome limits bytes ≡ refuse (Threshold (last_place v.book))
  running_starved i next e wrong = sym v.same ∙ run_refused _ _ _ (Threshold (last_place v.book)) (step_is e ∙ rw wrong)

  pub running_close : Ok Close ≡ step_of limits bytes s → outcome limits bytes ≡ close_of v.book
  running_close e = sym v.same ∙ run_close _ _ _ (step_is e)

  pub running_refused : (a : Refusal) → Err a ≡ step_of limits bytes s → outcome limits bytes ≡ refuse a
  running_refused a e = sym v.same ∙ run_refused _ _ _ a (step_is e)

  pub running_bounded : Bounded s
  running_bounded = rw v.state (kept_bounded v.kept)

-- ---- a run to its end

-- what the next record does to a book is what the rules let it do
pub sound_next : (bytes : List ℕ) (b : Book) → b.at ≤ length bytes → Sound (length bytes) (counts b) (record_of limits (drop b.at bytes)) (next_step limits bytes b)
unfolding next_step
sound_next bytes b h =
    threshold_elim b (Sound (length bytes) (counts b) (record_of limits (drop b.at bytes))) (λ p. tt)
    (step_of limits bytes (counts b)) (sound_step bytes (counts b) h)

pub next_fed : (bytes : List ℕ) (b : Book) {i next : ℕ} → next_step limits bytes b ≡ Ok (AddInput i next) → starved (add_input b i next) ≡ false
unfolding next_step
next_fed bytes b e = threshold_fed b (step_of limits bytes (counts b)) e

pub close_is : (b b' : Book) → close_of b ≡ accept b' → b ≡ b'
unfolding close_of
close_is b b' e = go (unused_by b) refl
  where
    go : (f : Option ℕ) → unused_by b ≡ f → b ≡ b'
    go (Some p) q = let d : refuse (Unused p) ≡ accept b' = sym (rw (q, close_of)) ∙ e in let z : ◌≡◌ {A = ℕ} 0 1 = cc in absurd (omega arith)
    go None q = let d : accept b ≡ accept b' = sym (rw (q, close_of)) ∙ e in cc

pub close_none : (b b' : Book) → close_of b ≡ accept b' → unused_by b ≡ None
unfolding close_of
close_none b b' e = go (unused_by b) refl
  where
    go : (f : Option ℕ) → unused_by b ≡ f → unused_by b ≡ None
    go (Some p) q = let d : refuse (Unused p) ≡ accept b' = sym (rw (q, close_of)) ∙ e in let z : ◌≡◌ {A = ℕ} 0 1 = cc in absurd (omega arith)
    go None q = q

-- what is known of a book that is accepted: what every run keeps, that nothing is unused, and what the end record found
pub record Closed (bytes : List ℕ) (P : Book → Type 0) (b : Book) : Type 0 where
  pub kept : Kept b
  pub used : unused_by b ≡ None
  pub close : OnClose (length bytes) (counts b) (record_of limits (drop b.at bytes))
  pub holds : P b

-- what holds at the start, and past each record, holds of a book that is accepted
module _
    (bytes : List ℕ)
    (P : Book → Type 0)
    (event : (b : Book) (c site : ℕ) (sited : Bool) (next : ℕ) → Kept b → P b → OnEvent (length bytes) (counts b) (record_of limits (drop b.at bytes)) c site sited next → P (add_event b c site sited next))
    (gate : (b : Book) (kind k n next : ℕ) → Kept b → P b → OnGate (length bytes) (counts b) (record_of limits (drop b.at bytes)) kind k n next → P (add_gate b kind k n next))
    (input : (b : Book) (i next : ℕ) → Kept b → P b → OnInput (length bytes) (counts b) (record_of limits (drop b.at bytes)) i next → P (add_input b i next))
    (b' : Book)
  where
    along_step : (turns : ℕ) (b : Book) → Kept b → P b
        → ((x : Book) → Kept x → P x → x.at ≤ length bytes → run limits turns bytes x ≡ accept b' → Closed bytes P b')
        → run limits (suc turns) bytes b ≡ accept b' → (x : Result Step Refusal) → next_step limits bytes b ≡ x
        → Sound (length bytes) (counts b) (record_of limits (drop b.at bytes)) x → Closed bytes P b'
    along_step turns b k p on e (Ok (AddEvent c site sited next)) q s =
        on (add_event b c site sited next) (kept_event k s) (event b c site sited next k p s) s.inside (sym (run_event turns bytes b c site sited next q) ∙ e)
    along_step turns b k p on e (Ok (AddGate kind least n next)) q s =
        on (add_gate b kind least n next) (kept_gate k (drop b.at bytes) refl s) (gate b kind least n next k p s) s.inside
        (sym (run_gate turns bytes b kind least n next q) ∙ e)
    along_step turns b k p on e (Ok (AddInput i next)) q s =
        on (add_input b i next) (kept_input k s (next_fed bytes b q)) (input b i next k p s) s.inside (sym (run_input turns bytes b i next q) ∙ e)
    along_step turns b k p on e (Ok Close) q s =
        let closed : close_of b ≡ accept b' = sym (run_close turns bytes b q) ∙ e in
        rw (← close_is b b' closed) (record { kept = k; used = close_none b b' closed; close = s; holds = p })
    along_step turns b k p on e (Err a) q s =
        let d : refuse a ≡ accept b' = sym (run_refused turns bytes b a q) ∙ e in let z : ◌≡◌ {A = ℕ} 0 1 = cc in absurd (omega arith)

    along : (turns : ℕ) (b : Book) → Kept b → P b → b.at ≤ length bytes → run limits turns bytes b ≡ accept b' → Closed bytes P b'
    unfolding run
    along zero b k p h e = let z : ◌≡◌ {A = ℕ} 0 1 = cc in absurd (omega arith)
    along (suc turns) b k p h e = along_step turns b k p (along turns) e (next_step limits bytes b) refl (sound_next bytes b h)

    pub accepted_keeps : P start → outcome limits bytes ≡ accept b' → Closed bytes P b'
    unfolding outcome
    accepted_keeps p e = along (length bytes + 1) start kept_start p (omega arith) e
