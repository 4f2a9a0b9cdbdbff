-- What an import answers, in one row: a number, place 0, a line, the length of a ring, and the tree, which is empty in a refusal. Number, line and ring
-- are 0 where it is done.
-- Assumes nothing.
use Rattle.std.specs.Prelude.{ℕ, Result, Ok, Err}
use Rattle.paper.specs.Refusals.{number}
use Rattle.records.specs.Judge.{start}
use Rattle.records.specs.Memory.{memory}
use Rattle.records.specs.declared.Tree.{Tree}
use Rattle.equations.specs.declared.ImportError.{ImportError}

pub record Imported : Type 0 where
  pub number : ℕ
  pub place : ℕ
  pub line : ℕ
  pub ring : ℕ
  pub tree : Tree

abbrev pub imported_of : Result Tree ImportError → Imported
imported_of (Ok t) = record { number = 0; place = 0; line = 0; ring = 0; tree = t }
imported_of (Err e) = record { number = number e.why; place = 0; line = e.line; ring = e.ring; tree = memory start }
