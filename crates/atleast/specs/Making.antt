-- What making a row of steps answers: every new node is a node of some step, and each step's diagram has a number.
-- Assumes nothing.
use Rattle.std.specs.Prelude.{false, List, ℕ, ◌+◌, ◌<◌, length, get_or, Result, Ok, Err}
use Rattle.paper.specs.Lists.{In}
use Rattle.paper.specs.Diagrams.{Diagram, leaf}
use Rattle.store.specs.Store.{Store}
use Rattle.store.specs.Memo.{Memo}
use Rattle.store.specs.Building.{PartOf, Found, Step, Stops, Tidy}
use Rattle.store.specs.declared.Built.{Built}
use Rattle.store.specs.declared.Full.{Full}
use Rattle.pairs.specs.Pairs.{Right}

-- ---- diagrams that have numbers

-- each of these diagrams has a number
pub record All (T : List ℕ) (c : ℕ) (ds : List Diagram) : Type 0 where
  pub each : (d : Diagram) → In d ds → (r : ℕ) × Found T c d r

-- the numbers in a row denote these diagrams
pub record Row (T : List ℕ) (c : ℕ) (ds : List Diagram) (R : List ℕ) : Type 0 where
  pub each : (j : ℕ) → j < length ds → Found T c (get_or ds j (leaf false)) (get_or R j 0)

-- the numbers in a row denote something
pub record Within (c : ℕ) (R : List ℕ) : Type 0 where
  pub each : (j : ℕ) → j < length R → get_or R j 0 < c + 2

-- ---- steps

-- the store, and a memo that is right for it
pub record Held (T H X M : List ℕ) (c : ℕ) : Type 0 where
  pub store : Store T H X c
  pub tidy : Tidy T c
  pub memo : Memo (Right T c) M

-- the steps ds are made
pub record Made (ds : List Diagram) (T : List ℕ) (c : ℕ) (T' H' X' : List ℕ) (c' : ℕ) : Type 0 where
  pub step : Step (PartOf ds) T c T' H' X' c'
  pub all : All T' c' ds

-- and D has number r
pub record Gained (ds : List Diagram) (D : Diagram) (T : List ℕ) (c : ℕ) (T' H' X' M' : List ℕ) (c' r : ℕ) : Type 0 where
  pub made : Made ds T c T' H' X' c'
  pub held : Held T' H' X' M' c'
  pub found : Found T' c' D r

-- or the table is full, and lacks a node of some step
abbrev pub Gains : (ds : List Diagram) (D : Diagram) (T : List ℕ) (c : ℕ) (T' H' X' M' : List ℕ) → Result Built Full → Type 0
Gains ds D T c T' H' X' M' (Ok b) = Gained ds D T c T' H' X' M' b.count b.node
Gains ds D T c T' H' X' M' (Err x) = Stops (PartOf ds) T c T' H' X' x.count
