-- Where the loop of `emit` stands: the room's front holds the tree's bytes up to the next record.
-- Assumes nothing.
use mathlib.Core.Path.{◌≡◌, refl, sym, ap, ◌∙◌}
use mathlib.Core.Bool.{Bool, false}
use mathlib.Core.List.{List, [], ◌++◌, append_assoc, append-nil}
use Prim.Native.Nat.{ℕ, ◌+◌, ◌-◌, ◌≤◌}
use native.Mathlib.Omega.{arith}
use lib.ListN.{length, take, drop, length-append, length-take, length-drop, drop_of_length-le}
use lib.Seq.{take_all, take_at, drop_at, drop-drop, take-add, take-length, length-take-le}
use Rattle.std.specs.Prelude.{Result, Ok, Err}
use Rattle.paper.specs.Limits.{limits}
use Rattle.rules.specs.Format.{width_of, encode}
use Rattle.rules.specs.Rules.{admit_of, step_of}
use Rattle.records.specs.Judge.{Book, counts, start, add_input, starved, Outcome, accept, refuse}
use Rattle.rules.specs.States.{past_event, past_gate, past_input}
use Rattle.judging.specs.Bytes.{bytes_of}
use Rattle.judging.specs.Inner.{Own, Accepted}
use Rattle.rules.specs.declared.Refusal.{Refusal}
use Rattle.records.specs.declared.Tree.{Tree}
use Rattle.rules.specs.declared.format.Record.{Record}
use Rattle.rules.specs.declared.judge.State.{State}
use Rattle.rules.specs.declared.judge.Step.{Step}
use Rattle.rules.specs.declared.judge.Step.TheVariants.{AddEvent, AddGate, AddInput, Close}
use Rattle.judging.proofs.Coding.{encode_width}
use Rattle.judging.proofs.Rest.{next_record}
use Rattle.records.proofs.Runs.{Running, running_start, running_sound, running_event, running_gate, running_input, running_starved, running_refused}
use Rattle.rules.proofs.Cases.{either}
use Rattle.rules.proofs.Steps.{Sound}
use Rattle.judging.proofs.Following.{Following, follow_start, follow_step, follow_event, follow_gate, follow_input, starts_with, read_back, room_for, end_length}

-- the room as the code leaves it where its rest from `at` on was lent, and came back as ys
abbrev pub lent : List ℕ → ℕ → List ℕ → List ℕ
lent room at ys = take at room ++ (ys ++ drop (length room - at) (drop at room))

pub record Emitting (t : Tree) (old room : List ℕ) (s : State) : Type 0 where
  pub running : Running (bytes_of t) s
  pub following : Following t (bytes_of t) s
  pub written : room ≡ take s.at (bytes_of t) ++ drop s.at old
  pub fits : length (bytes_of t) ≤ length old

pub emit_start : (t : Tree) (room : List ℕ) → length (bytes_of t) ≤ length room → Emitting t room room (counts start)
emit_start t room h = record { running = running_start (bytes_of t); following = follow_start t; written = refl; fits = h }

-- what is accepted is not refused
not_both : {o : Outcome} {a : Refusal} {b : Book} → o ≡ refuse a → o ≡ accept b → ⊥
not_both {o} {a} {b} p q = let d : refuse a ≡ accept b = sym p ∙ q in let z : ◌≡◌ {A = ℕ} 0 1 = cc in omega arith

module _ {t : Tree} {old room : List ℕ} {s : State} (v : Emitting t old room s) where
  pub emit_length : length room ≡ length old
  emit_length =
      rw v.written
      (length-append (take s.at (bytes_of t)) (drop s.at old) ∙ simp (length-take, length-drop) (omega (arith, v.fits, v.running.within)))

  pub emit_inside : s.at ≤ length room
  emit_inside = omega (arith, emit_length, v.running.within, v.fits)

  front : length (take s.at (bytes_of t)) ≡ s.at
  front = length-take-le s.at (bytes_of t) v.running.within

  module _ {r : Record} (e : r ≡ next_record t s) where
    pub emit_room : width_of r ≤ length (take (length room - s.at) (drop s.at room))
    emit_room = simp (length-take, length-drop) (omega (arith, room_for v.following e v.running.within, v.fits, emit_length))

    module _ (own : Own r) {ys : List ℕ} (put : ys ≡ encode r ++ drop (width_of r) (take (length room - s.at) (drop s.at room))) where
      -- the room after the record is put at its place
      emit_put : lent room s.at ys ≡ take (s.at + width_of r) (bytes_of t) ++ drop (s.at + width_of r) old
      emit_put =
          let (xs, q) = starts_with v.following e in
          let kept : take s.at room ≡ take s.at (bytes_of t) = rw v.written (take_at (take s.at (bytes_of t)) (drop s.at old) s.at front) in
          let behind : drop s.at room ≡ drop s.at old = rw v.written (drop_at (take s.at (bytes_of t)) (drop s.at old) s.at front) in
          let all : take (length room - s.at) (drop s.at room) ≡ drop s.at room = take_all (length room - s.at) (drop s.at room) (omega (arith, length-drop s.at room)) in
          let none : drop (length room - s.at) (drop s.at room) ≡ [] = drop_of_length-le (drop s.at room) {i = length room - s.at} (omega (arith, length-drop s.at room)) in
          let there : take (width_of r) (drop s.at (bytes_of t)) ≡ encode r = rw q (take_at (encode r) xs (width_of r) (encode_width r)) in
          rw (put, none, append-nil, all, kept, behind, take-add s.at (width_of r) (bytes_of t), there, drop-drop)
          (sym (append_assoc (take s.at (bytes_of t)) (encode r) (drop (s.at + width_of r) old)))

      pub emit_same : length (lent room s.at ys) ≡ length old
      emit_same =
          ap length emit_put ∙ length-append (take (s.at + width_of r) (bytes_of t)) (drop (s.at + width_of r) old)
          ∙ simp (length-take, length-drop) (omega (arith, room_for v.following e v.running.within, v.fits))

      step : {x : Result Step Refusal} → x ≡ admit_of limits (s.at + width_of r) s r → x ≡ step_of limits (bytes_of t) s
      step q = q ∙ follow_step v.following e own

      pub emit_sound : {x : Result Step Refusal} → x ≡ admit_of limits (s.at + width_of r) s r → Sound (length (bytes_of t)) s r x
      emit_sound q = rw (read_back v.following e own) at (running_sound v.running (step q))

      pub emit_event : (c site : ℕ) (sited : Bool) (next : ℕ) → Ok (AddEvent c site sited next) ≡ admit_of limits (s.at + width_of r) s r → Emitting t old (lent room s.at ys) (past_event s sited next)
      emit_event c site sited next q =
          let on = emit_sound q in
          record { running = running_event v.running c site sited next (step q); following = follow_event v.following e on; written = rw on.place emit_put; fits = v.fits }

      pub emit_gate : (kind k n next : ℕ) → Ok (AddGate kind k n next) ≡ admit_of limits (s.at + width_of r) s r → Emitting t old (lent room s.at ys) (past_gate s n next)
      emit_gate kind k n next q =
          let on = emit_sound q in
          record { running = running_gate v.running kind k n next (step q); following = follow_gate v.following e on; written = rw on.place emit_put; fits = v.fits }

      -- no gate of an accepted tree is starved
      pub emit_input : Accepted t → (i next : ℕ) → Ok (AddInput i next) ≡ admit_of limits (s.at + width_of r) s r → Emitting t old (lent room s.at ys) (past_input s next)
      emit_input (b, p) i next q =
          let on = emit_sound q in
          let fed : starved (add_input v.running.book i next) ≡ false =
          either (starved (add_input v.running.book i next)) (λ wrong. absurd (not_both (running_starved v.running i next (step q) wrong) p)) (λ right. right) in
          record { running = running_input v.running i next (step q) fed; following = follow_input v.following e on; written = rw on.place emit_put; fits = v.fits }

      pub emit_done : Ok Close ≡ admit_of limits (s.at + width_of r) s r → lent room s.at ys ≡ bytes_of t ++ drop (length (bytes_of t)) old
      emit_done q =
          let shape = (emit_sound q).shape in
          let n : s.at + width_of r ≡ length (bytes_of t) = rw shape (sym (end_length v.following e shape)) in
          emit_put ∙ rw (n, take-length)

      pub emit_never : Accepted t → (a : Refusal) → Err a ≡ admit_of limits (s.at + width_of r) s r → ⊥
      emit_never (b, p) a q = not_both (running_refused v.running a (step q)) p
