-- What the functions that build diagrams answer: how the table grew, and the node that was made or why none could be.
-- W says which nodes are wanted. Assumes nothing.
use Rattle.std.specs.Prelude.{◌≡◌, true, List, ℕ, ◌+◌, ◌/◌, ◌<◌, ◌≤◌, length, Result, Ok, Err}
use Rattle.paper.specs.Lists.{In}
use Rattle.paper.specs.Diagrams.{Diagram, Reduced}
use Rattle.algebra.specs.Operations.{subs, is_node}
use Rattle.tables.specs.Table.{den}
use Rattle.store.specs.Store.{Store, Grown}
use Rattle.store.specs.Memo.{Keeps}
use Rattle.store.specs.declared.Built.{Built}
use Rattle.store.specs.declared.Full.{Full}

-- E is the node D
pub record Is (D E : Diagram) : Type 0 where
  pub is : E ≡ D
  pub node : is_node E ≡ true

-- E is a node of D
pub record Part (D E : Diagram) : Type 0 where
  pub inside : In E (subs D)
  pub node : is_node E ≡ true

-- E is a node of one of these diagrams
pub record PartOf (ds : List Diagram) (E : Diagram) : Type 0 where
  pub whole : Diagram
  pub member : In whole ds
  pub part : Part whole E

-- number r denotes D
pub record Found (T : List ℕ) (c : ℕ) (D : Diagram) (r : ℕ) : Type 0 where
  pub within : r < c + 2
  pub is : den T r ≡ D

-- a stored node denotes E
pub record Has (T : List ℕ) (c : ℕ) (E : Diagram) : Type 0 where
  pub at : ℕ
  pub low : 2 ≤ at
  pub high : at < c + 2
  pub is : den T at ≡ E

-- the table grew by wanted nodes alone
pub record Step (W : Diagram → Type 0) (T : List ℕ) (c : ℕ) (T' H' X' : List ℕ) (c' : ℕ) : Type 0 where
  pub store : Store T' H' X' c'
  pub grown : Grown T c T' c'
  pub wanted : (i : ℕ) → c + 2 ≤ i → i < c' + 2 → W (den T' i)

-- and number r denotes D
pub record Makes (W : Diagram → Type 0) (T : List ℕ) (c : ℕ) (D : Diagram) (T' H' X' : List ℕ) (c' r : ℕ) : Type 0 where
  pub step : Step W T c T' H' X' c'
  pub found : Found T' c' D r

-- the table is full, and some wanted node is denoted by no number
pub record Lacks (W : Diagram → Type 0) (T : List ℕ) (c : ℕ) : Type 0 where
  pub full : c ≡ length T / 3
  pub part : Diagram
  pub wanted : W part
  pub absent : (i : ℕ) → i < c + 2 → den T i ≡ part → ⊥

pub record Stops (W : Diagram → Type 0) (T : List ℕ) (c : ℕ) (T' H' X' : List ℕ) (c' : ℕ) : Type 0 where
  pub step : Step W T c T' H' X' c'
  pub lacks : Lacks W T' c'

-- what building D answers
abbrev pub Builds : (W : Diagram → Type 0) (T : List ℕ) (c : ℕ) (D : Diagram) (T' H' X' : List ℕ) → Result Built Full → Type 0
Builds W T c D T' H' X' (Ok b) = Makes W T c D T' H' X' b.count b.node
Builds W T c D T' H' X' (Err x) = Stops W T c T' H' X' x.count

-- what building the one node D answers, its branches being there
abbrev pub BuildsOne : (T : List ℕ) (c : ℕ) (D : Diagram) (T' H' X' : List ℕ) → Result Built Full → Type 0
BuildsOne T c D T' H' X' r = Builds (Is D) T c D T' H' X' r

-- the node over two branches, kept as the answer to an operation
pub record Finished (T M : List ℕ) (c : ℕ) (D : Diagram) (op f g : ℕ) (T' H' X' M' : List ℕ) (c' r : ℕ) : Type 0 where
  pub makes : Makes (Is D) T c D T' H' X' c' r
  pub keeps : Keeps M op f g r M'

abbrev pub Finishes : (T M : List ℕ) (c : ℕ) (D : Diagram) (op f g : ℕ) (T' H' X' M' : List ℕ) → Result Built Full → Type 0
Finishes T M c D op f g T' H' X' M' (Ok b) = Finished T M c D op f g T' H' X' M' b.count b.node
Finishes T M c D op f g T' H' X' M' (Err x) = Stops (Is D) T c T' H' X' x.count

-- every stored node is wanted
pub record Only (W : Diagram → Type 0) (T : List ℕ) (c : ℕ) : Type 0 where
  pub each : (i : ℕ) → 2 ≤ i → i < c + 2 → W (den T i)

-- every number denotes a reduced diagram
pub record Tidy (T : List ℕ) (c : ℕ) : Type 0 where
  pub reduced : (i : ℕ) → i < c + 2 → Reduced (den T i)
