-- Input that is longer than any tree is decided by its first bytes.
-- Assumes nothing.
use mathlib.Core.Path.{◌≡◌, refl, sym, ap, ◌∙◌}
use mathlib.Core.List.{List}
use Prim.Native.Nat.{ℕ, zero, suc, ◌+◌, ◌-◌, ◌≤◌, ◌<◌}
use native.Mathlib.Omega.{arith}
use native.Mathlib.Numerals.{add-one}
use lib.ListN.{length, get_or, take, drop, length-drop}
use lib.Seq.{get_or-drop, get_or-take, length-take-le, take_all}
use lib.Dec.{ltb}
use borrow.Author.Tests.{lt-ltb, le-ltb, ne_eqb, ltb-true, ltb-false}
use Rattle.std.specs.Prelude.{Result, Ok, Err}
use Rattle.paper.specs.Limits.{limits, most_bytes}
use Rattle.rules.specs.Format.{byte, length_of, body_of, record_of}
use Rattle.rules.specs.Longest.{longest_run}
use Rattle.rules.specs.Rules.{admit_of, step_of}
use Rattle.records.specs.Judge.{Book, start, counts, add_event, add_gate, add_input, threshold_step, next_step, run, outcome, judge}
use Rattle.rules.specs.declared.Refusal.{Refusal}
use Rattle.rules.specs.declared.format.Record.{Record}
use Rattle.rules.specs.declared.format.Record.TheVariants.{Missing, Unknown, Short, Event, SitedEvent, Gate, EventInput, GateInput, WideInput, End}
use Rattle.rules.specs.declared.judge.State.{State}
use Rattle.rules.specs.declared.judge.Step.{Step}
use Rattle.rules.specs.declared.judge.Step.TheVariants.{AddEvent, AddGate, AddInput, Close}
use Rattle.rules.proofs.Cases.{either, front, known, length_small}
use Rattle.rules.proofs.Steps.{Sound}
use Rattle.records.proofs.Keeping.{Kept, kept_start, kept_event, kept_gate, kept_input, kept_near}
use Rattle.records.proofs.Runs.{run_event, run_gate, run_input, run_close, run_refused, sound_next, next_fed}

-- seven bytes decide what record it is
record_agree : (l m : List ℕ) → 7 ≤ length l → 7 ≤ length m → ((i : ℕ) → i < 7 → get_or l i 0 ≡ get_or m i 0) → record_of limits l ≡ record_of limits m
unfolding record_of body_of
record_agree l m hl hm same =
    let most : length_of (byte m 0) ≤ 7 = length_small (byte m 0) in
    rw (same 0 (omega arith))
    (rw (
      ne_eqb (length l) 0 (omega arith),
      ne_eqb (length m) 0 (omega arith),
      le-ltb (length l) (length_of (byte m 0)) (omega arith),
      le-ltb (length m) (length_of (byte m 0)) (omega arith),
      same 1 (omega arith),
      same 2 (omega arith),
      same 3 (omega arith),
      same 4 (omega arith),
      same 5 (omega arith),
      same 6 (omega arith),
    ))

not_missing : (l : List ℕ) → 1 ≤ length l → record_of limits l ≡ Missing → ⊥
not_missing l h =
    let P : Record → Type 0 = λ r. r ≡ Missing → ⊥ in
    let never : ◌≡◌ {A = ℕ} 0 1 → ⊥ = λ z. omega arith in
    front l P (λ e p. omega arith) (λ _ p. never (cc)) (λ _ _ p. never (cc))
    (λ _ some _. known l (λ _ _ r. P r) (λ p. never (cc)) (λ p. never (cc)) (λ p. never (cc)) (λ p. never (cc)) (λ p. never (cc)) (λ p. never (cc)) (λ p. never (cc)) (λ p. never (cc)) (λ p. never (cc)) (byte l 0) some)

admit_agree : (len len' : ℕ) (s : State) (r : Record) → (r ≡ Missing → ⊥) → s.at + 1 < len → s.at + 1 < len' → admit_of limits len s r ≡ admit_of limits len' s r
admit_agree len len' s Missing h a b = absurd (h refl)
admit_agree len len' s Unknown h a b = refl
admit_agree len len' s Short h a b = refl
admit_agree len len' s (Event c) h a b = refl
admit_agree len len' s (SitedEvent c site) h a b = refl
admit_agree len len' s (Gate kind k n) h a b = refl
admit_agree len len' s (EventInput e) h a b = refl
admit_agree len len' s (GateInput g) h a b = refl
admit_agree len len' s (WideInput e) h a b = refl
admit_agree len len' s End h a b = rw (lt-ltb _ _ a, lt-ltb _ _ b)

-- the longest run of records without a fault, and the record behind it
abbrev pub decided : ℕ
decided = longest_run + length_of 0x11

module _ (bytes : List ℕ) (n : ℕ) (long : n ≤ length bytes) (past : decided < n) where
  abbrev pre : List ℕ
  pre = take n bytes

  pre_length : length pre ≡ n
  pre_length = length-take-le n bytes long

  same_step : (b : Book) → Kept b → next_step limits pre b ≡ next_step limits bytes b
  unfolding next_step step_of
  same_step b f =
      let at : b.at ≤ longest_run = kept_near f in
      let agree : record_of limits (drop b.at pre) ≡ record_of limits (drop b.at bytes) =
      record_agree (drop b.at pre) (drop b.at bytes) (omega (arith, length-drop b.at pre, pre_length)) (omega (arith, length-drop b.at bytes))
      (λ i h. get_or-drop b.at pre i 0 ∙ get_or-take n bytes (b.at + i) 0 (omega arith) ∙ sym (get_or-drop b.at bytes i 0)) in
      let step : admit_of limits (length pre) (counts b) (record_of limits (drop b.at pre)) ≡ admit_of limits (length bytes) (counts b) (record_of limits (drop b.at bytes)) =
      rw (agree, pre_length)
      (admit_agree n (length bytes) (counts b) (record_of limits (drop b.at bytes)) (not_missing (drop b.at bytes) (omega (arith, length-drop b.at bytes))) (omega arith) (omega arith)) in
      ap (threshold_step b) step

  lock_step : (k m : ℕ) (b : Book) → Kept b → length bytes - b.at ≤ suc k → n - b.at ≤ suc m
      → ((x : Book) → Kept x → length bytes - x.at ≤ k → n - x.at ≤ m → run limits (suc k) bytes x ≡ run limits (suc m) pre x)
      → (x : Result Step Refusal) → next_step limits bytes b ≡ x → Sound (length bytes) (counts b) (record_of limits (drop b.at bytes)) x
      → run limits (suc (suc k)) bytes b ≡ run limits (suc (suc m)) pre b
  lock_step k m b f h g on (Ok (AddEvent c site sited next)) q s =
      run_event (suc k) bytes b c site sited next q ∙ on (add_event b c site sited next) (kept_event f s) (omega arith) (omega arith) ∙ sym (run_event (suc m) pre b c site sited next (same_step b f ∙ q))
  lock_step k m b f h g on (Ok (AddGate kind j z next)) q s =
      run_gate (suc k) bytes b kind j z next q ∙ on (add_gate b kind j z next) (kept_gate f (drop b.at bytes) refl s) (omega arith) (omega arith)
      ∙ sym (run_gate (suc m) pre b kind j z next (same_step b f ∙ q))
  lock_step k m b f h g on (Ok (AddInput i next)) q s =
      run_input (suc k) bytes b i next q ∙ on (add_input b i next) (kept_input f s (next_fed bytes b q)) (omega arith) (omega arith) ∙ sym (run_input (suc m) pre b i next (same_step b f ∙ q))
  lock_step k m b f h g on (Ok Close) q s = run_close (suc k) bytes b q ∙ sym (run_close (suc m) pre b (same_step b f ∙ q))
  lock_step k m b f h g on (Err a) q s = run_refused (suc k) bytes b a q ∙ sym (run_refused (suc m) pre b a (same_step b f ∙ q))

  lock : (k m : ℕ) (b : Book) → Kept b → length bytes - b.at ≤ k → n - b.at ≤ m → run limits (suc k) bytes b ≡ run limits (suc m) pre b
  lock zero m b f h g = absurd (omega (arith, kept_near f))
  lock (suc k) zero b f h g = absurd (omega (arith, kept_near f))
  lock (suc k) (suc m) b f h g =
      lock_step k m b f h g (λ x. lock k m x) (next_step limits bytes b) refl (sound_next bytes b (omega (arith, kept_near f)))

  long_prefix : outcome limits bytes ≡ outcome limits (take n bytes)
  unfolding outcome
  long_prefix = rw (add-one, add-one) (lock (length bytes) (length pre) start kept_start (omega arith) (omega (arith, pre_length)))

-- the first n bytes of any input are read as the input is, n being above 20,999
pub first_bytes_decide : (n : ℕ) → decided < n → (bytes : List ℕ) → outcome limits (take n bytes) ≡ outcome limits bytes
first_bytes_decide n past bytes =
    either (ltb (length bytes) n)
    (λ e. ap (outcome limits) (take_all n bytes (omega (arith, ltb-true (length bytes) n e))))
    (λ e. sym (long_prefix bytes n (ltb-false (length bytes) n e) past))

-- the program's 24,576 bytes get the number and the place of all of them
pub program_reads_enough : (bytes : List ℕ) → judge limits (take most_bytes bytes) ≡ judge limits bytes
unfolding judge
program_reads_enough bytes = rw (first_bytes_decide most_bytes (omega arith) bytes)
