-- Which bytes are accepted: those of the lawful trees.
-- Assumes nothing.
use Rattle.std.specs.Prelude.{◌≡◌, List, ℕ, ◌<◌, get_or}
use Rattle.paper.specs.Limits.{limits}
use Rattle.records.specs.Judge.{Book, accept, outcome}
use Rattle.records.specs.Memory.{memory}
use Rattle.records.specs.Trees.{Lawful}
use Rattle.judging.specs.Bytes.{bytes_of}

-- each of these numbers is a byte
abbrev pub AreBytes : List ℕ → Type 0
AreBytes bytes = (i : ℕ) → get_or bytes i 0 < 256

pub record Accepted (bytes : List ℕ) : Type 0 where
  pub book : Book
  pub is : outcome limits bytes ≡ accept book

-- a tree that keeps the rules, whose records these bytes are. Where a reading of it stands (at, left, places) is not asked.
pub record BytesOfLawful (bytes : List ℕ) : Type 0 where
  pub book : Book
  pub lawful : Lawful limits book
  pub are : bytes_of (memory book) ≡ bytes

-- two books that tell the same tree
pub record SameTree (b c : Book) : Type 0 where
  pub events : c.events ≡ b.events
  pub sited : c.sited ≡ b.sited
  pub kinds : c.kinds ≡ b.kinds
  pub leasts : c.leasts ≡ b.leasts
  pub sizes : c.sizes ≡ b.sizes
  pub inputs : c.inputs ≡ b.inputs
