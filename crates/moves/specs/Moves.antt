-- What the moves to the form with sites and back answer, and what the room holds next.
use Rattle.std.specs.Prelude.{ℕ, ◌*◌, Bool, true, false, List, length, Option, Some, None, Err}
use Rattle.paper.specs.Limits.{Limits}
use Rattle.rules.specs.Format.{length_of}
use Rattle.records.specs.Judge.{Book, Outcome, accept, refuse, outcome}
use Rattle.records.specs.Memory.{memory}
use Rattle.judging.specs.Bytes.{bytes_of}
use Rattle.writing.specs.Sites.{lowest_sited}
use Rattle.writing.specs.Writes.{Wrote, wrote, laid_of}
use Rattle.rules.specs.declared.Refusal.TheVariants.{Sited}

-- the same tree, its records with sites or without
abbrev pub in_form : Bool → Book → Book
in_form sited b = record {
  at = b.at;
  left = b.left;
  events = b.events;
  sited = sited;
  kinds = b.kinds;
  leasts = b.leasts;
  sizes = b.sizes;
  places = b.places;
  inputs = b.inputs;
}

-- a refusal, or the tree's bytes in that form for a room: Room (9) if they do not fit, and room behind them stays
abbrev pub moved_in : Bool → Outcome → List ℕ → Wrote
moved_in sited (accept b) room = laid_of (accept b) (bytes_of (memory (in_form sited b))) room
moved_in sited (refuse a) room = wrote (Err a) room

-- Sited (22) behind an outcome, at the record, with a site, of an event
abbrev pub or_lost : Option ℕ → Book → Outcome
or_lost (Some e) b = refuse (Sited (length_of 0x11 * e))
or_lost None b = accept b

-- Sited where an event has a site that is not 0, at the first such record
abbrev pub kept_by : Outcome → Outcome
kept_by (accept b) = or_lost (lowest_sited (length b.events) 0 b.events) b
kept_by (refuse a) = refuse a

unfoldable pub to_sites : Limits → List ℕ → List ℕ → Wrote
to_sites L bytes room = moved_in true (outcome L bytes) room

unfoldable pub from_sites : Limits → List ℕ → List ℕ → Wrote
from_sites L bytes room = moved_in false (kept_by (outcome L bytes)) room
