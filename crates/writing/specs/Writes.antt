-- What writing a tree in memory answers, and what the room holds next.
use Rattle.std.specs.Prelude.{ℕ, ◌*◌, List, ◌++◌, length, drop, ltb, Option, Some, None, Result, Ok, Err}
use Rattle.paper.specs.Limits.{Limits}
use Rattle.std.specs.Prelude.{if◌then◌else◌}
use Rattle.rules.specs.Format.{length_of}
use Rattle.records.specs.Judge.{Outcome, accept, refuse, outcome}
use Rattle.judging.specs.Bytes.{bytes_of}
use Rattle.writing.specs.Sites.{lost_site}
use Rattle.rules.specs.declared.Refusal.{Refusal}
use Rattle.rules.specs.declared.Refusal.TheVariants.{Room, Sited}
use Rattle.records.specs.declared.Tree.{Tree}

-- what a write answers, and what the room holds next
pub record Wrote : Type 0 where
  pub answer : Result ℕ Refusal
  pub room : List ℕ

abbrev pub wrote : Result ℕ Refusal → List ℕ → Wrote
wrote r room = record { answer = r; room = room }

-- a text for a room, by the outcome of a tree's bytes: a refusal, then Room (9) if the text does not fit; room behind it stays
abbrev pub laid_of : Outcome → List ℕ → List ℕ → Wrote
laid_of (accept b) s room = if ltb (length room) (length s) then wrote (Err Room) room else wrote (Ok (length s)) (s ++ drop (length s) room)
laid_of (refuse a) s room = wrote (Err a) room

-- Sited (22) behind an outcome, at the record, without a site, of an event
abbrev pub or_sited : Option ℕ → Outcome → Outcome
or_sited f (refuse a) = refuse a
or_sited (Some e) (accept b) = refuse (Sited (length_of 1 * e))
or_sited None (accept b) = accept b

-- as its bytes would be answered, then Sited if they have no place for an event's site
abbrev pub written_as : Limits → Tree → Outcome
written_as L t = or_sited (lost_site t) (outcome L (bytes_of t))

-- and then Room (9) if they do not fit
unfoldable pub write_of : Limits → Tree → List ℕ → Wrote
write_of L t room = laid_of (written_as L t) (bytes_of t) room
