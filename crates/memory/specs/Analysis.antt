-- What an analysis answers, in one row: a number and its place, and, where it is done, the counts of both tables and both roots. All but number and
-- place is 0 in a refusal, and both are 0 where it is done.
-- Assumes nothing.
use Rattle.std.specs.Prelude.{ℕ, Result, Ok, Err}
use Rattle.paper.specs.Refusals.{number}
use Rattle.paper.specs.declared.refusal.Refused.{Refused}
use Rattle.memory.specs.declared.Tables.{Tables}

pub record Analysis : Type 0 where
  pub number : ℕ
  pub place : ℕ
  pub nodes : ℕ
  pub cut_nodes : ℕ
  pub root : ℕ
  pub cut_root : ℕ

abbrev pub analysis_of : Result Tables Refused → Analysis
analysis_of (Ok t) = record { number = 0; place = 0; nodes = t.nodes; cut_nodes = t.cut_nodes; root = t.root; cut_root = t.cut_root }
analysis_of (Err r) = record { number = number r.why; place = r.place; nodes = 0; cut_nodes = 0; root = 0; cut_root = 0 }
