-- A table of nodes that grows and holds no triple twice, with the chains by which a triple is found.
-- T is the table, H the heads of the chains, X the links, c the number of stored nodes.
-- Assumes nothing.
use Rattle.std.specs.Prelude.{◌≡◌, List, ℕ, ◌+◌, ◌-◌, ◌*◌, ◌/◌, ◌%◌, ◌<◌, ◌≤◌, get_or, length, Option, Some, None}
use Rattle.paper.specs.Limits.{most_numbers}
use Rattle.tables.specs.Table.{event_at, failed_at, sound_at}
use Rattle.tables.specs.Stored.{Lower, Unique, ZeroBehind, Kept}

-- three numbers mixed to 32 bits: only the proof of the function that does it, and the law that it is so many bits, look inside
unfoldable pub mix : ℕ → ℕ → ℕ → ℕ
mix e f s = (e * 906908087 % 4294967296 + f * 1641373853 % 4294967296 + s * 2345438705 % 4294967296) % 4294967296

-- the slot, of so many, at which the search for a triple begins
unfoldable pub first_slot : ℕ → ℕ → ℕ → ℕ → ℕ
first_slot e f s slots = mix e f s * mix 0 f s % 4294967296 * (slots % 4294967296) / 4294967296

-- what the function that chooses the first slot answers
pub record First (e f s slots r : ℕ) : Type 0 where
  pub is : r ≡ first_slot e f s slots
  pub below : r < slots

-- the first slot of the node in slot k of the table
abbrev pub chain_at : List ℕ → ℕ → ℕ → ℕ
chain_at T slots k = first_slot (event_at T k) (failed_at T k) (sound_at T k) slots

-- slot k holds this triple
pub record Triple (T : List ℕ) (k e f s : ℕ) : Type 0 where
  pub event : event_at T k ≡ e
  pub failed : failed_at T k ≡ f
  pub sound : sound_at T k ≡ s

-- none of the first c slots holds this triple
abbrev pub Absent : List ℕ → ℕ → ℕ → ℕ → ℕ → Type 0
Absent T c e f s = (k : ℕ) → k < c → Triple T k e f s → ⊥

-- v is the last node of chain h among the first b slots, or below 2 where there is none
pub record Last (T : List ℕ) (slots b h v : ℕ) : Type 0 where
  pub to : v < b + 2
  pub own : 2 ≤ v → chain_at T slots (v - 2) ≡ h
  pub none : (k : ℕ) → v ≤ k + 1 → k < b → chain_at T slots k ≡ h → ⊥

-- THE INVARIANT: branches lower, no two nodes equal, zeros behind, and chains of falling node numbers.
-- Event range, rising events and reducedness are no part of it: they are properties of diagrams
pub record Store (T H X : List ℕ) (c : ℕ) : Type 0 where
  pub room : 3 * c ≤ length T
  pub small : length T ≤ most_numbers
  pub linked : length T ≤ 3 * length X
  pub chains : 1 ≤ length H
  pub lower : Lower T c
  pub unique : Unique T c
  pub behind : ZeroBehind T c
  pub heads : (h : ℕ) → h < length H → Last T (length H) c h (get_or H h 0)
  pub links : (k : ℕ) → k < c → Last T (length H) k (chain_at T (length H) k) (get_or X k 0)

-- T' with c' nodes is T with c nodes and perhaps more behind them
pub record Grown (T : List ℕ) (c : ℕ) (T' : List ℕ) (c' : ℕ) : Type 0 where
  pub more : c ≤ c'
  pub long : length T' ≡ length T
  pub kept : Kept T T' c

-- T' is T with this triple in slot c
pub record Put (T : List ℕ) (c e f s : ℕ) (T' : List ℕ) : Type 0 where
  pub long : length T' ≡ length T
  pub is : Triple T' c e f s
  pub same : (p : ℕ) → p < 3 * c → get_or T' p 0 ≡ get_or T p 0
  pub rest : (p : ℕ) → 3 * c + 3 ≤ p → get_or T' p 0 ≡ get_or T p 0

-- what the search answers: a stored node with the triple, or that there is none
pub record Stored (T : List ℕ) (c e f s r : ℕ) : Type 0 where
  pub low : 2 ≤ r
  pub to : r < c + 2
  pub hit : Triple T (r - 2) e f s

abbrev pub Sought : List ℕ → ℕ → ℕ → ℕ → ℕ → Option ℕ → Type 0
Sought T c e f s (Some r) = Stored T c e f s r
Sought T c e f s None = Absent T c e f s
