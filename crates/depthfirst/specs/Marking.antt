-- The work lists: M has a mark for each name (0: not met, 1: open, 2 or more: left), K is the stack of open names,
-- A the place in each one's inputs, Q the names in the order in which they are left.
-- Assumes nothing.
use Rattle.std.specs.Prelude.{◌≡◌, ◌⊎◌, Option, Some, None, List, [], ◌∷◌, ◌++◌, ℕ, zero, suc, ◌<◌, ◌≤◌, get_or, length, take, set}
use Rattle.std.proofs.Math.Seq.{slice}
use Rattle.paper.specs.Lists.{In, Once}
use Rattle.paper.specs.Walks.{Ordered}
use Rattle.depthfirst.specs.Inputs.{inputs_of}

-- how many marks are not 0
abbrev pub marked : List ℕ → ℕ
marked [] = 0
marked (zero ∷ l) = marked l
marked (suc v ∷ l) = suc (marked l)

-- the work lists are long enough for n names
pub record Rooms (n : ℕ) (M K A Q : List ℕ) : Type 0 where
  pub marks : n ≤ length M
  pub stack : n ≤ length K
  pub places : n ≤ length A
  pub order : n ≤ length Q

-- of n names those of `way` are open and those of `done` left
pub record Marks (n : ℕ) (M way done : List ℕ) : Type 0 where
  pub long : n ≤ length M
  pub way_low : (y : ℕ) → In y way → y < n
  pub way_one : (y : ℕ) → In y way → get_or M y 0 ≡ 1
  pub one_way : (y : ℕ) → y < n → get_or M y 0 ≡ 1 → In y way
  pub done_low : (y : ℕ) → In y done → y < n
  pub done_two : (y : ℕ) → In y done → 2 ≤ get_or M y 0
  pub two_done : (y : ℕ) → y < n → 2 ≤ get_or M y 0 → In y done
  pub once : Once way

-- no walk is going on, and the first `left` numbers of Q are the names that were left
pub record Idle (S I : List ℕ) (n : ℕ) (M Q : List ℕ) (left : ℕ) : Type 0 where
  pub marks : Marks n M [] (take left Q)
  pub full : marked (take n M) ≡ left
  pub ordered : Ordered (inputs_of S I) (take left Q)

-- the first n marks are 0
pub record Clear (n : ℕ) (M : List ℕ) : Type 0 where
  pub zeros : (i : ℕ) → i < n → get_or M i 0 ≡ 0

-- the places p to e of I can be looked up
pub record Listed (n : ℕ) (I M : List ℕ) (e : ℕ) : Type 0 where
  pub inside : e ≤ length I
  pub named : (p : ℕ) → p < length I → get_or I p 0 < n
  pub long : n ≤ length M

-- of the names at the places from p on, before e, those before place q are left, and the one at q, if any, is not
pub record Passes (n : ℕ) (I M : List ℕ) (p e q : ℕ) : Type 0 where
  pub passed : List ℕ
  pub split : slice p e I ≡ passed ++ slice q e I
  pub low : (y : ℕ) → In y passed → y < n
  pub left : (y : ℕ) → In y passed → 2 ≤ get_or M y 0
  pub stop : q < e → get_or M (get_or I q 0) 0 < 2

-- what the look for that place answers: the place, where there is one before e
abbrev pub Passed : (n : ℕ) (I M : List ℕ) (p e : ℕ) → Option ℕ → Type 0
Passed n I M p e (Some q) = (q < e) × Passes n I M p e q
Passed n I M p e None = Passes n I M p e e

-- y stands among the first d numbers of K
pub record Stands (K : List ℕ) (d y : ℕ) : Type 0 where
  pub spot : ℕ
  pub low : spot < d
  pub is : get_or K spot 0 ≡ y

-- name y was opened, at depth d
pub record Opened (S M K A : List ℕ) (d y : ℕ) (M' K' A' : List ℕ) : Type 0 where
  pub mark : M' ≡ set M y 1
  pub stack : K' ≡ set K d y
  pub place : A' ≡ set A d (get_or S y 0)

-- name x was left
pub record Closed (M Q : List ℕ) (left x : ℕ) (M' Q' : List ℕ) : Type 0 where
  pub mark : M' ≡ set M x 2
  pub order : Q' ≡ set Q left x

-- ---- the marks of a look for the root: not 0 at each name that is an input

-- the names at the places p to e of I are marked too, and no other
pub record Stretched (I M : List ℕ) (p e : ℕ) (M' : List ℕ) : Type 0 where
  pub old : (z : ℕ) → 1 ≤ get_or M z 0 → 1 ≤ get_or M' z 0
  pub new : (z : ℕ) → In z (slice p e I) → 1 ≤ get_or M' z 0
  pub only : (z : ℕ) → 1 ≤ get_or M' z 0 → (1 ≤ get_or M z 0) ⊎ In z (slice p e I)

-- of n names exactly the inputs of the names below m are marked
pub record InputsMarked (g : ℕ → List ℕ) (n m : ℕ) (M : List ℕ) : Type 0 where
  pub every : (w z : ℕ) → w < m → In z (g w) → 1 ≤ get_or M z 0
  pub only : (z : ℕ) → z < n → 1 ≤ get_or M z 0 → (w : ℕ) × (w < m) × In z (g w)

-- r is the first name from a on that is not marked, or n where there is none
pub record FirstBare (n : ℕ) (M : List ℕ) (a r : ℕ) : Type 0 where
  pub from : a ≤ r
  pub low : r ≤ n
  pub marked_before : (z : ℕ) → a ≤ z → z < r → 1 ≤ get_or M z 0
  pub bare : r < n → get_or M r 0 ≡ 0

-- what the look for it answers: the name, where there is one below n
abbrev pub Bares : (n : ℕ) (M : List ℕ) (a : ℕ) → Option ℕ → Type 0
Bares n M a (Some r) = (r < n) × FirstBare n M a r
Bares n M a None = FirstBare n M a n
