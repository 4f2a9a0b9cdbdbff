-- A node as it is read: its event and its branches.
-- Assumes nothing.
use Rattle.std.specs.Prelude.{◌≡◌, List, ℕ, suc, ◌<◌}
use Rattle.paper.specs.Limits.{limits}
use Rattle.paper.specs.Diagrams.{node, Ordered}
use Rattle.tables.specs.Table.{den}

-- node i of the table T has event e, one of n, failed branch f and sound branch s
pub record Reads (n : ℕ) (T : List ℕ) (i e f s : ℕ) : Type 0 where
  pub is : den T i ≡ node e (den T f) (den T s)
  pub inside : e < n
  pub few : e < limits.events
  pub failed : f < i
  pub sound : s < i
  pub above : Ordered (suc e) n (den T f)
