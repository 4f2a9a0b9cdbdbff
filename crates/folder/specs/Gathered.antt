-- What a folder answers, in one row: a number and its place, and the index of the tree that is refused. Place and tree are 0 where the answer is no
-- tree's own, and all is 0 where it is done.
-- Assumes nothing.
use Rattle.std.specs.Prelude.{ℕ, Result, Ok, Err}
use Rattle.paper.specs.Refusals.{number}
use Rattle.folder.specs.declared.RefusedTree.{RefusedTree}

pub record Gathered : Type 0 where
  pub number : ℕ
  pub place : ℕ
  pub tree : ℕ

abbrev pub gathered_of : Result (Unit {0}) RefusedTree → Gathered
gathered_of (Ok _) = record { number = 0; place = 0; tree = 0 }
gathered_of (Err r) = record { number = number r.why; place = r.place; tree = r.tree }
