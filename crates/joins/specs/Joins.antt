-- And, or of two nodes of a store: what is handed over, and what is handed back.
-- Assumes nothing.
use Rattle.std.specs.Prelude.{◌≡◌, List, ℕ, ◌+◌, ◌<◌, length, Result, Ok, Err}
use Rattle.paper.specs.Diagrams.{Diagram}
use Rattle.store.specs.Store.{Store}
use Rattle.store.specs.Building.{Part, Makes, Stops, Tidy}
use Rattle.store.specs.Memo.{Memo}
use Rattle.store.specs.declared.Built.{Built}
use Rattle.store.specs.declared.Full.{Full}
use Rattle.pairs.specs.Pairs.{Right}

-- what joining f and g is handed
pub record Ready (T H X M : List ℕ) (c z f g : ℕ) : Type 0 where
  pub store : Store T H X c
  pub tidy : Tidy T c
  pub memo : Memo (Right T c) M
  pub z_bit : z < 2
  pub f_in : f < c + 2
  pub g_in : g < c + 2

-- what it hands back: D is made of its parts alone, every number still denotes a reduced diagram, and the memo is right for the table as it is now
pub record Joined (T M : List ℕ) (c : ℕ) (D : Diagram) (T' H' X' M' : List ℕ) (c' r : ℕ) : Type 0 where
  pub makes : Makes (Part D) T c D T' H' X' c' r
  pub tidy : Tidy T' c'
  pub memo : Memo (Right T' c') M'
  pub long : length M' ≡ length M

-- or the table is full, and lacks a part of D
abbrev pub Joins : (T M : List ℕ) (c : ℕ) (D : Diagram) (T' H' X' M' : List ℕ) → Result Built Full → Type 0
Joins T M c D T' H' X' M' (Ok b) = Joined T M c D T' H' X' M' b.count b.node
Joins T M c D T' H' X' M' (Err x) = Stops (Part D) T c T' H' X' x.count
