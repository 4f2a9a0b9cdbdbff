-- A refusal has its number and place, and all else is 0.
-- Assumes nothing.
use mathlib.Core.Path.{refl}
use Rattle.std.specs.Prelude.{ℕ, Err}
use Rattle.paper.specs.Refusals.{number}
use Rattle.paper.specs.declared.refusal.Refusal.{Refusal}
use Rattle.memory.specs.Analysis.{analysis_of}
use Rattle.memory.specs.Outcome.{Refused, at}

pub refuses : (why : Refusal) (place : ℕ) → Refused (at (number why) place) (analysis_of (Err (record { why = why; place = place })))
refuses why place = record { number = refl; place = refl; no_nodes = refl; no_cut_nodes = refl; no_root = refl; no_cut_root = refl }
