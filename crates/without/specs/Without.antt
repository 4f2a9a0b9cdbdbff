-- F without G over two tables: F is a family, number f of the cut table C with d nodes; G is a function, number g of the node table T.
-- Assumes nothing.
use Rattle.std.specs.Prelude.{◌≡◌, List, ℕ, suc, ◌+◌, ◌<◌, ◌≤◌, min, Result, Ok, Err}
use Rattle.paper.specs.Limits.{limits}
use Rattle.paper.specs.Diagrams.{Diagram, node, Ordered}
use Rattle.algebra.specs.Families.{mk_z, without_d}
use Rattle.tables.specs.Table.{den}
use Rattle.store.specs.Store.{Store}
use Rattle.store.specs.Building.{Part, Found, Makes, Stops}
use Rattle.store.specs.Memo.{Memo, Place}
use Rattle.store.specs.declared.Built.{Built}
use Rattle.store.specs.declared.Full.{Full}
use Rattle.store.specs.declared.Known.{Known}
use Rattle.store.specs.declared.Known.TheVariants.{Node, Unknown}
use Rattle.store.specs.declared.Parts.{Parts}
use Rattle.without.specs.Reading.{Readable, top}

-- what the memo may say: operation 3 is without, of a cut number and a node number, and its result is a cut number
pub record Right (C : List ℕ) (d : ℕ) (T : List ℕ) (op f g r : ℕ) : Type 0 where
  pub within : op ≡ 3 → f < d + 2
  pub found : op ≡ 3 → Found C d (without_d (den C f) (den T g)) r

-- a cut number whose events rise
pub record Family (C : List ℕ) (d f : ℕ) : Type 0 where
  pub within : f < d + 2
  pub ordered : Ordered 0 limits.events (den C f)

-- the two tables, the memo and the two numbers
pub record Ready (C H X : List ℕ) (d : ℕ) (M T : List ℕ) (f g : ℕ) : Type 0 where
  pub store : Store C H X d
  pub memo : Memo (Right C d T) M
  pub family : Family C d f
  pub function : Readable T g

-- r is f without g, whatever the tables
pub record Answered (M : List ℕ) (f g r : ℕ) : Type 0 where
  pub found : (C H X : List ℕ) (d : ℕ) (T : List ℕ) → Ready C H X d M T f g → Found C d (without_d (den C f) (den T g)) r

-- neither is a leaf; the place is for their result
pub record Missed (M : List ℕ) (f g at : ℕ) : Type 0 where
  pub f_node : 2 ≤ f
  pub g_node : 2 ≤ g
  pub place : Place M at

abbrev pub Asked : List ℕ → ℕ → ℕ → Known → Type 0
Asked M f g (Node r) = Answered M f g r
Asked M f g (Unknown at) = Missed M f g at

-- node h stands for g in every family that begins at event e
pub record Passed (T : List ℕ) (e g h : ℕ) : Type 0 where
  pub node_h : 2 ≤ h
  pub low : h ≤ g
  pub function : Readable T h
  pub rise : top (den T g) ≤ top (den T h)
  pub same : (f s : Diagram) → without_d (node e f s) (den T g) ≡ without_d (node e f s) (den T h)

-- f and g taken apart at an event that is none of those before both
pub record Parted (C T : List ℕ) (f g : ℕ) (p : Parts) : Type 0 where
  pub event : p.e < limits.events
  pub first : min (top (den C f)) (top (den T g)) ≤ p.e
  pub f1_low : p.f1 ≤ f
  pub g1_low : p.g1 ≤ g
  pub f0_low : p.f0 ≤ f
  pub g0_low : p.g0 ≤ g
  pub f1_later : Ordered (suc p.e) limits.events (den C p.f1)
  pub g1_later : Ordered (suc p.e) limits.events (den T p.g1)
  pub f0_later : Ordered (suc p.e) limits.events (den C p.f0)
  pub g0_later : Ordered (suc p.e) limits.events (den T p.g0)
  pub splits : without_d (den C f) (den T g) ≡ mk_z p.e (without_d (den C p.f1) (den T p.g1)) (without_d (den C p.f0) (den T p.g0))

-- the family D stands in the cut table, which grew by nodes of D alone
pub record Taken (C : List ℕ) (d : ℕ) (T : List ℕ) (D : Diagram) (C' H' X' M' : List ℕ) (d' r : ℕ) : Type 0 where
  pub made : Makes (Part D) C d D C' H' X' d' r
  pub memo : Memo (Right C' d' T) M'

abbrev pub Takes : (C : List ℕ) (d : ℕ) (T : List ℕ) (D : Diagram) (C' H' X' M' : List ℕ) → Result Built Full → Type 0
Takes C d T D C' H' X' M' (Ok b) = Taken C d T D C' H' X' M' b.count b.node
Takes C d T D C' H' X' M' (Err x) = Stops (Part D) C d C' H' X' x.count
