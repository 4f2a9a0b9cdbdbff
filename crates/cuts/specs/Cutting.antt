-- The minimal cuts of every function that the root's diagram holds, in a cut table C of d nodes; K marks the numbers of the node table T
-- that the root reaches, and O has the cut number of each of them.
-- Assumes nothing.
use Rattle.std.specs.Prelude.{◌≡◌, List, map, ℕ, ◌+◌, ◌*◌, ◌/◌, ◌<◌, ◌≤◌, length, get_or, Result, Ok, Err}
use Rattle.paper.specs.Limits.{most_numbers}
use Rattle.paper.specs.Lists.{keep}
use Rattle.paper.specs.Diagrams.{Diagram}
use Rattle.algebra.specs.Operations.{subs, is_node, node_count}
use Rattle.algebra.specs.Families.{cuts_d}
use Rattle.tables.specs.Table.{failed_of, sound_of, den}
use Rattle.store.specs.Store.{Store}
use Rattle.store.specs.Building.{PartOf, Found, Has, Only}
use Rattle.store.specs.Memo.{Memo}
use Rattle.store.specs.declared.Built.{Built}
use Rattle.store.specs.declared.Full.{Full}
use Rattle.without.specs.Reading.{Readable}
use Rattle.without.specs.Without.{Right}
use Rattle.cuts.specs.Reach.{Marked}

-- ---- what is wanted

-- the minimal cuts of every non-constant function in the diagram D
abbrev pub families : Diagram → List Diagram
families D = map cuts_d (keep is_node (subs D))

-- how many nodes these families have
abbrev pub cut_nodes : Diagram → ℕ
cut_nodes D = node_count (families D)

-- ---- what is answered

-- the cut table of D: its root denotes D's cuts, and its nodes are those that are wanted, each once
pub record CutTable (D : Diagram) (C H X : List ℕ) (d r : ℕ) : Type 0 where
  pub store : Store C H X d
  pub root : Found C d (cuts_d D) r
  pub only : Only (PartOf (families D)) C d
  pub all : (E : Diagram) → PartOf (families D) E → Has C d E
  pub count : d ≡ cut_nodes D

-- done, or the wanted nodes exceed the capacity
abbrev pub Cuts : (D : Diagram) (C H X : List ℕ) → Result Built Full → Type 0
Cuts D C H X (Ok b) = CutTable D C H X b.count b.node
Cuts D C H X (Err x) = length C / 3 < cut_nodes D

-- ---- on the way

-- lengths of the cut table, its heads and links, the marks and the cut numbers
pub record Room (C H X K O : List ℕ) (root : ℕ) : Type 0 where
  pub small : length C ≤ most_numbers
  pub linked : length C ≤ 3 * length X
  pub chains : 1 ≤ length H
  pub marks : root < length K
  pub own : root < length O
  pub leaves : 2 ≤ length O

-- node i, whose branches have their cuts
pub record Turn (C H X : List ℕ) (d : ℕ) (M T O : List ℕ) (i : ℕ) : Type 0 where
  pub store : Store C H X d
  pub memo : Memo (Right C d T) M
  pub function : Readable T i
  pub node : 2 ≤ i
  pub long : i < length O
  pub failed : Found C d (cuts_d (den T (failed_of T i))) (get_or O (failed_of T i) 0)
  pub sound : Found C d (cuts_d (den T (sound_of T i))) (get_or O (sound_of T i) 0)

-- the reached numbers below i have their cuts
pub record Halfway (T K : List ℕ) (root : ℕ) (C H X : List ℕ) (d : ℕ) (M O : List ℕ) (i : ℕ) : Type 0 where
  pub store : Store C H X d
  pub memo : Memo (Right C d T) M
  pub only : Only (PartOf (families (den T root))) C d
  pub own : (j : ℕ) → j < i → get_or K j 0 ≡ 1 → Found C d (cuts_d (den T j)) (get_or O j 0)

-- what does not change on the way
pub record Base (T K : List ℕ) (root : ℕ) : Type 0 where
  pub function : Readable T root
  pub marked : Marked T root K
  pub long : root < length K

-- one number further, or full
abbrev pub Steps : (T K : List ℕ) (root : ℕ) (C H X M O : List ℕ) (i : ℕ) → Result ℕ Full → Type 0
Steps T K root C H X M O i (Ok d) = Halfway T K root C H X d M O (i + 1)
Steps T K root C H X M O i (Err x) = length C / 3 < cut_nodes (den T root)
