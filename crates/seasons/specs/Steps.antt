-- What comes of a tree in memory that was read: 24 and 13, then the analysis of the tree with its forced events as constants.
-- Assumes nothing.
use Rattle.std.specs.Prelude.{◌≡◌, ◌≢◌, List, ℕ}
use Rattle.paper.specs.Store.{accepted, judge_store, settings_of}
use Rattle.records.specs.declared.Tree.{Tree}
use Rattle.memory.specs.Memory.{Memory}
use Rattle.memory.specs.Outcome.{Refused}
use Rattle.memory.specs.Analysis.{Analysis}
use Rattle.analysis.specs.Filling.{Tried}
use Rattle.forcing.specs.Codes.{force_in}

pub data TriedUnder (t : Tree) (store : List ℕ) (asked : ℕ) (m m' : Memory) (a : Analysis) : Type 0 where
  bad_store : (judge_store t.event_count store).number ≢ 0 → Refused (judge_store t.event_count store) a → m' ≡ m → TriedUnder t store asked m m' a
  tried : judge_store t.event_count store ≡ accepted → Tried (force_in (settings_of asked store) t) m m' a → TriedUnder t store asked m m' a
