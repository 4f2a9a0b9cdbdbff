-- What the passes over the nodes store: the numbers with one event failed or sound for certain. Events are taken in rising order, and a pass writes only at
-- nodes of events up to its own, so that those of later events keep the numbers that the given chances give.
-- Assumes nothing.
use Rattle.std.specs.Prelude.{◌≡◌, Bool, cond, ◌||◌, ◌&&◌, List, ℕ, zero, suc, ◌+◌, ◌-◌, ◌≤◌, ◌<◌, ltb, eqb, length, get_or, set}
use Rattle.paper.specs.Limits.{billion}
use Rattle.tables.specs.Table.{event_of}
use Rattle.bracket.specs.Pass.{number_of, number_in, Priced}
use Rattle.cuts.specs.Reach.{Marked}
use Rattle.importance.specs.Weighed.{low_in, high_in}

-- the chances with event e failed for certain, or sound
abbrev pub fixed_chances : List ℕ → ℕ → Bool → List ℕ
fixed_chances A e b = set A e (cond b billion 0)

-- the numbers of the leaves and of the nodes of events from e on are those of the given chances
pub record Later (r : ℕ) (A T W : List ℕ) (c e : ℕ) : Type 0 where
  pub at : (j : ℕ) → j < c + 2 → (2 ≤ j → e ≤ event_of T j) → number_in W j ≡ number_of r A T j

-- on the way of a pass that fixes event e: the numbers below i that are marked are those of the chances with e fixed, those of later events kept theirs
pub record Again (r e : ℕ) (b : Bool) (A T K W : List ℕ) (c i : ℕ) : Type 0 where
  pub later : Later r A T W c (e + 1)
  pub fixed : (j : ℕ) → j < i → get_or K j 0 ≡ 1 → number_in W j ≡ number_of r (fixed_chances A e b) T j

-- a diagram that passed all checks, and what its root reaches is marked
pub record Ground (n : ℕ) (T : List ℕ) (c root : ℕ) (A K : List ℕ) : Type 0 where
  pub priced : Priced n T c root A
  pub marked : Marked T root K
  pub room : root < length K

-- both work areas have room for the c nodes
pub record Roomy (c : ℕ) (W U : List ℕ) : Type 0 where
  pub down : c ≤ length W
  pub up : c ≤ length U

-- between the passes: nodes of events from m on have the numbers of the given chances, rounded down in W and up in U
pub record Kept (n : ℕ) (T : List ℕ) (c root : ℕ) (A K : List ℕ) (m : ℕ) (W U : List ℕ) : Type 0 where
  pub grounds : Ground n T c root A K
  pub roomy : Roomy c W U
  pub down : Later 0 A T W c m
  pub up : Later (billion - 1) A T U c m

-- within a pass, before number i
pub record Halfway (n : ℕ) (T : List ℕ) (c root : ℕ) (A K : List ℕ) (e : ℕ) (b : Bool) (W U : List ℕ) (i : ℕ) : Type 0 where
  pub grounds : Ground n T c root A K
  pub event : e < n
  pub roomy : Roomy c W U
  pub down : Again 0 e b A T K W c i
  pub up : Again (billion - 1) e b A T K U c i

-- what one event leaves: its two numbers, and the nodes of later events as they were
pub record Weighs (T : List ℕ) (c root : ℕ) (A : List ℕ) (e lo hi : ℕ) (W U : List ℕ) : Type 0 where
  pub low : lo ≡ low_in T root A e
  pub high : hi ≡ high_in T root A e
  pub down : Later 0 A T W c (e + 1)
  pub up : Later (billion - 1) A T U c (e + 1)

-- node i is marked and has event e
pub record Met (T K : List ℕ) (e i : ℕ) : Type 0 where
  pub marked : get_or K i 0 ≡ 1
  pub event : event_of T i ≡ e

-- ---- the place of an event in the ranking: how many events outrank it

-- number i of a list of numbers
abbrev pub entry : List ℕ → ℕ → ℕ
entry L i = get_or L i 0

abbrev pub outranks : (ℕ → ℕ) → ℕ → ℕ → Bool
outranks w j i = ltb (w i) (w j) || (eqb (w j) (w i) && ltb j i)

-- among the events below m
unfoldable pub ahead : (ℕ → ℕ) → ℕ → ℕ → ℕ
ahead w i zero = 0
ahead w i (suc m) = ahead w i m + cond (outranks w m i) 1 0

-- the first n places of R that belong to events below i hold them; what R₀ had stands behind
pub record Placing (w : ℕ → ℕ) (n i : ℕ) (R₀ R : List ℕ) : Type 0 where
  pub placed : (j : ℕ) → j < i → get_or R (ahead w j n) 0 ≡ j
  pub behind : (p : ℕ) → n ≤ p → get_or R p 0 ≡ get_or R₀ p 0
  pub long : length R ≡ length R₀
