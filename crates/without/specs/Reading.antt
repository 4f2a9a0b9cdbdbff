-- A number that can be read, and the events that remain below it.
-- Assumes nothing.
use Rattle.std.specs.Prelude.{List, ℕ, ◌+◌, ◌-◌, ◌*◌, ◌<◌, ◌≤◌, min, length}
use Rattle.paper.specs.Limits.{limits}
use Rattle.paper.specs.Diagrams.{Diagram, leaf, node, Ordered}
use Rattle.tables.specs.Table.{den}
use Rattle.tables.specs.Stored.{Lower}

-- number i of a table that is only read: a leaf, or a node among those whose branches are lower
pub record Held (T : List ℕ) (i : ℕ) : Type 0 where
  pub count : ℕ
  pub fits : 3 * count ≤ length T
  pub lower : Lower T count
  pub within : i < count + 2

-- and it denotes a diagram whose events rise
pub record Readable (T : List ℕ) (i : ℕ) : Type 0 where
  pub held : Held T i
  pub ordered : Ordered 0 limits.events (den T i)

-- the event of the top node; a leaf stands below every event
abbrev pub top : Diagram → ℕ
top (leaf b) = limits.events
top (node e f s) = e

-- the events that remain below the higher of two top nodes
abbrev pub remain : Diagram → Diagram → ℕ
remain F G = limits.events - min (top F) (top G)
