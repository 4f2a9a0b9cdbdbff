-- What is written has the paper's number and place.
-- Assumes nothing.
use mathlib.Core.Path.{◌≡◌, refl, ap, ◌∙◌}
use mathlib.Core.Bool.{Bool, true, false}
use mathlib.Core.List.{List}
use Prim.Native.Nat.{ℕ}
use lib.ListN.{length}
use lib.Dec.{ltb}
use Rattle.std.specs.Prelude.{Result}
use Rattle.paper.specs.Limits.{limits}
use Rattle.rules.specs.Answers.{verdict}
use Rattle.records.specs.Judge.{Outcome, accept, refuse}
use Rattle.judging.specs.Bytes.{bytes_of}
use Rattle.writing.specs.Writes.{Wrote, wrote, written_as, write_of}
use Rattle.analyser.specs.Verdicts.{judge_writing}
use Rattle.rules.specs.declared.Refusal.{Refusal}
use Rattle.records.specs.declared.Tree.{Tree}

written_verdict : (t : Tree) (room : List ℕ) → verdict (write_of limits t room).answer ≡ judge_writing limits t room
unfolding write_of judge_writing
written_verdict t room = go (written_as limits t) (ltb (length room) (length (bytes_of t))) refl refl
  where
    go : (o : Outcome) (b : Bool) → written_as limits t ≡ o → ltb (length room) (length (bytes_of t)) ≡ b → verdict (write_of limits t room).answer ≡ judge_writing limits t room
    go (accept x) true p q = rw (write_of, judge_writing, p, q) refl
    go (accept x) false p q = rw (write_of, judge_writing, p, q) refl
    go (refuse a) b p q = rw (write_of, judge_writing, p) refl

pub with_verdict : (t : Tree) (room : List ℕ) {r : Result ℕ Refusal} {room' : List ℕ} → wrote r room' ≡ write_of limits t room
    → (wrote r room' ≡ write_of limits t room) × (verdict r ≡ judge_writing limits t room)
with_verdict t room e = (e, ap (λ (w : Wrote). verdict w.answer) e ∙ written_verdict t room)
