-- The paper's number and place of what writing a tree answers; those of a reading are `judge` of its bytes.
-- Assumes nothing.
use Rattle.std.specs.Prelude.{List, ℕ, length, ltb}
use Rattle.paper.specs.Answers.{Verdict}
use Rattle.paper.specs.Limits.{Limits}
use Rattle.rules.specs.Answers.{reason}
use Rattle.std.specs.Prelude.{if◌then◌else◌}
use Rattle.records.specs.Judge.{accept, refuse}
use Rattle.judging.specs.Bytes.{bytes_of}
use Rattle.writing.specs.Writes.{written_as}
use Rattle.rules.specs.declared.Refusal.TheVariants.{Room}
use Rattle.records.specs.declared.Tree.{Tree}

-- as the tree's bytes would be refused, then 22 if they have no place for an event's site, then 9 if the room is shorter than they are
unfoldable pub judge_writing : Limits → Tree → List ℕ → Verdict
judge_writing L t room =
    elim (written_as L t) [
      | accept b ↦ if ltb (length room) (length (bytes_of t)) then reason Room else record { number = 0; place = 0 }
      | refuse a ↦ reason a
    ]
