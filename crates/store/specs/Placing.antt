-- What finding or adding the node D answers: it was there, it was added, or there is no room for it.
-- Assumes nothing.
use Rattle.std.specs.Prelude.{◌≡◌, ◌⊎◌, List, ℕ, ◌+◌, ◌/◌, ◌<◌, length, Result, Ok, Err}
use Rattle.paper.specs.Diagrams.{Diagram}
use Rattle.tables.specs.Table.{den}
use Rattle.store.specs.Store.{Store, Grown}
use Rattle.store.specs.Building.{Found}
use Rattle.store.specs.declared.Built.{Built}
use Rattle.store.specs.declared.Full.{Full}

-- the store is as it was
pub record Unchanged (T H X T' H' X' : List ℕ) : Type 0 where
  pub nodes : T' ≡ T
  pub heads : H' ≡ H
  pub links : X' ≡ X

-- no number denotes D
abbrev pub Lacking : List ℕ → ℕ → Diagram → Type 0
Lacking T c D = (i : ℕ) → i < c + 2 → den T i ≡ D → ⊥

-- nothing changed, the count neither, and number r denotes D
pub record Was (T H X : List ℕ) (c : ℕ) (D : Diagram) (T' H' X' : List ℕ) (c' r : ℕ) : Type 0 where
  pub same : Unchanged T H X T' H' X'
  pub count : c' ≡ c
  pub found : Found T c D r

-- no number denoted D; now the next number does, and there is no other node more
pub record Grew (T : List ℕ) (c : ℕ) (D : Diagram) (T' H' X' : List ℕ) (c' r : ℕ) : Type 0 where
  pub lacking : Lacking T c D
  pub next : r ≡ c + 2
  pub count : c' ≡ c + 1
  pub store : Store T' H' X' (c + 1)
  pub grown : Grown T c T' (c + 1)
  pub is : den T' r ≡ D

-- nothing changed, no number denotes D, and all the room is taken
pub record NoRoom (T H X : List ℕ) (c : ℕ) (D : Diagram) (T' H' X' : List ℕ) (c' : ℕ) : Type 0 where
  pub same : Unchanged T H X T' H' X'
  pub count : c' ≡ c
  pub lacking : Lacking T c D
  pub full : c ≡ length T / 3

abbrev pub Puts : (T H X : List ℕ) (c : ℕ) (D : Diagram) (T' H' X' : List ℕ) → Result Built Full → Type 0
Puts T H X c D T' H' X' (Ok b) = Was T H X c D T' H' X' b.count b.node ⊎ Grew T c D T' H' X' b.count b.node
Puts T H X c D T' H' X' (Err x) = NoRoom T H X c D T' H' X' x.count
