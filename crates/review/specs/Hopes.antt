-- When a set below a node is worth reporting, and where a walk over such sets is.
-- Assumes nothing.
use Rattle.std.specs.Prelude.{◌≡◌, Bool, true, List, ℕ, zero, suc, ◌-◌, take}
use Rattle.paper.specs.Limits.{billion}
use Rattle.paper.specs.Lists.{In, keep}
use Rattle.paper.specs.Sets.{Set}
use Rattle.paper.specs.Cuts.{sets_of}
use Rattle.paper.specs.Reports.{reportable}
use Rattle.algebra.specs.Reports.{over}
use Rattle.tables.specs.Table.{event_of, den}
use Rattle.walk.specs.Paths.{along, around, Open, left_of}
use Rattle.bracket.specs.Bracketed.{chance_in}

-- reportable under edition r, for the chances A of n events
abbrev pub worth : ℕ → List ℕ → ℕ → Set → Bool
worth r A n = reportable billion (chance_in A) n r

-- some set below node `at` passes the test R, put together with the members Q on the way
pub record Hope (R : Set → Bool) (T : List ℕ) (Q : Set) (at : ℕ) : Type 0 where
  pub found : Set
  pub below : In found (sets_of (den T at))
  pub is : R (over Q found) ≡ true

-- how many events there are from that of node i on, of n; none at a leaf: a walk down from there enters no more nodes
unfoldable pub events_left : ℕ → List ℕ → ℕ → ℕ
events_left n T zero = 0
events_left n T (suc zero) = 0
events_left n T (suc (suc k)) = n - event_of T (suc (suc k))

-- a node to go down from: what passes of l is what passes of the node's sets and of those left by the path; some of the node's does
pub record Promising (R : Set → Bool) (n : ℕ) (T : List ℕ) (c : ℕ) (P : List ℕ) (d at : ℕ) (l : List Set) : Type 0 where
  pub path : Open n T c P d at
  pub hope : Hope R T (along T (take d P)) at
  pub is : keep R l ≡ keep R (around T (take d P) (sets_of (den T at)))

-- the path of the first set of l that passes
pub record Landed (R : Set → Bool) (n : ℕ) (T : List ℕ) (c : ℕ) (P : List ℕ) (d : ℕ) (l : List Set) : Type 0 where
  pub path : Open n T c P d 1
  pub good : R (along T (take d P)) ≡ true
  pub is : keep R l ≡ keep R (left_of T P d)
