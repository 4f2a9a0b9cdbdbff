-- What the walks answer. S and I are the equations of n names; M, K and Q the work lists afterwards.
-- Assumes nothing.
use Rattle.std.specs.Prelude.{◌≡◌, ◌⊎◌, Bool, true, false, Option, Some, None, Result, Ok, Err, List, [], ℕ, zero, suc, ◌<◌, ◌≤◌, get_or, length, take}
use Rattle.std.proofs.Math.Seq.{slice}
use Rattle.paper.specs.Lists.{In}
use Rattle.paper.specs.Walks.{Reaches, Ring, OneRoot, visit, postorder, preorder, events_of, gates_of, Ordered}
use Rattle.depthfirst.specs.Inputs.{inputs_of, Arrays}
use Rattle.depthfirst.specs.Marking.{Idle}
use Rattle.depthfirst.specs.declared.RingError.{RingError}

-- the numbers of K from place a up to e are a ring
pub record Shown (S I : List ℕ) (K : List ℕ) (a e : ℕ) : Type 0 where
  pub some : a < e
  pub inside : e ≤ length K
  pub ring : Ring (inputs_of S I) (slice a e K)

-- the walk came to its end, and left the names `target` in this order, the earlier ones included; `target` may depend on how deep the
-- recursive walk goes, but from n on it does not
pub record Ended (S I : List ℕ) (n : ℕ) (M Q : List ℕ) (r : ℕ) (target : ℕ → List ℕ) : Type 0 where
  pub idle : Idle S I n M Q r
  pub is : (k : ℕ) → n ≤ k → take r Q ≡ target k

-- what a walk that goes on from names left before answers
abbrev pub WalksOn : (S I : List ℕ) (n : ℕ) (M K Q : List ℕ) (target : ℕ → List ℕ) → Result ℕ RingError → Type 0
WalksOn S I n M K Q target (Ok r) = Ended S I n M Q r target
WalksOn S I n M K Q target (Err e) = Shown S I K e.from e.to

-- THE ORDER of a walk from the root: the recursive walk's, to any depth of n or more; its events stand by first appearance;
-- it has the root and each name that the root leads to, once and behind its inputs, and no other; none of them leads back to itself
pub record InOrder (S I : List ℕ) (n root : ℕ) (Q : List ℕ) (r : ℕ) : Type 0 where
  pub inside : r ≤ n
  pub is : (k : ℕ) → n ≤ k → take r Q ≡ postorder (inputs_of S I) k root
  pub events : (k : ℕ) → n ≤ k → events_of (inputs_of S I) (take r Q) ≡ events_of (inputs_of S I) (preorder (inputs_of S I) k root)
  pub ordered : Ordered (inputs_of S I) (take r Q)
  pub low : (z : ℕ) → In z (take r Q) → z < n
  pub own : In root (take r Q)
  pub every : (z : ℕ) → Reaches (inputs_of S I) root z → In z (take r Q)
  pub only : (z : ℕ) → In z (take r Q) → (z ≡ root) ⊎ Reaches (inputs_of S I) root z
  pub ringless : (z : ℕ) → In z (take r Q) → Reaches (inputs_of S I) z z → ⊥

abbrev pub Walks : (S I : List ℕ) (n root : ℕ) (K Q : List ℕ) → Result ℕ RingError → Type 0
Walks S I n root K Q (Ok r) = InOrder S I n root Q r
Walks S I n root K Q (Err e) = Shown S I K e.from e.to

-- the names in the order in which they are left, where a walk begins at each of the names 0 to m - 1 in turn
unfoldable pub visit_all : (ℕ → List ℕ) → ℕ → ℕ → List ℕ
visit_all g k zero = []
visit_all g k (suc m) = visit g k (visit_all g k m) m

-- the same of the walks from every name: all names are left, and none leads back to itself
pub record AllInOrder (S I : List ℕ) (n : ℕ) (Q : List ℕ) (r : ℕ) : Type 0 where
  pub count : r ≡ n
  pub is : (k : ℕ) → n ≤ k → take n Q ≡ visit_all (inputs_of S I) k n
  pub ordered : Ordered (inputs_of S I) (take n Q)
  pub every : (z : ℕ) → z < n → In z (take n Q)
  pub ringless : (z : ℕ) → z < n → Reaches (inputs_of S I) z z → ⊥

abbrev pub WalksAll : (S I : List ℕ) (n : ℕ) (K Q : List ℕ) → Result ℕ RingError → Type 0
WalksAll S I n K Q (Ok r) = AllInOrder S I n Q r
WalksAll S I n K Q (Err e) = Shown S I K e.from e.to

-- the first `left` numbers of Q are names in order, and there is room for their numbers
pub record Numberable (S I : List ℕ) (n : ℕ) (Q : List ℕ) (left : ℕ) (N : List ℕ) : Type 0 where
  pub arrays : Arrays S I n
  pub few : left ≤ n
  pub inside : left ≤ length Q
  pub low : (z : ℕ) → In z (take left Q) → z < n
  pub ordered : Ordered (inputs_of S I) (take left Q)
  pub long : n ≤ length N

-- the names of l are numbered from 0 on, in this order
abbrev pub InTurn : List ℕ → List ℕ → Type 0
InTurn N l = (i : ℕ) → i < length l → get_or N (get_or l i 0) 0 ≡ i

-- THE NUMBERS of the names of an order: e events and h gates, each kind from 0 on
pub record Numbers (g : ℕ → List ℕ) (l N : List ℕ) (e h : ℕ) : Type 0 where
  pub events : e ≡ length (events_of g l)
  pub gates : h ≡ length (gates_of g l)
  pub event_turn : InTurn N (events_of g l)
  pub gate_turn : InTurn N (gates_of g l)

abbrev pub is_back : Result ℕ RingError → Bool
is_back (Ok r) = false
is_back (Err e) = true

-- THE ROOT: the one name that is an input of none; where there is not exactly one, no name is the root
abbrev pub RootIs : (S I : List ℕ) (n : ℕ) → Option ℕ → Type 0
RootIs S I n (Some r) = OneRoot (inputs_of S I) n r
RootIs S I n None = (root : ℕ) → OneRoot (inputs_of S I) n root → ⊥
