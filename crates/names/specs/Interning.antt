-- NAMES AS NUMBERS: a name's number is its place among the names met so far, each once and by first appearance.
-- N has the place of each name's first appearance in the text, H the heads of the chains, X the links, c the number of names.
-- Assumes nothing.
use Rattle.std.specs.Prelude.{◌≡◌, Option, Some, None, List, [], ◌∷◌, ◌++◌, map, ℕ, ◌+◌, ◌-◌, ◌*◌, ◌%◌, ◌<◌, ◌≤◌, get_or, length, take}
use Rattle.paper.specs.Equations.{with, number_of}
use Rattle.paper.specs.Spots.{firsts}
use Rattle.lines.specs.Reading.{name_at}

-- the names that the first c places hold
unfoldable pub dict_of : List ℕ → List ℕ → ℕ → List (List ℕ)
dict_of text N c = map (name_at text) (take c N)

-- ---- the chains

-- a name mixed to 32 bits
abbrev pub mix_on : ℕ → List ℕ → ℕ
mix_on h [] = h
mix_on h (b ∷ w) = mix_on ((h * 33 + b) % 4294967296) w

-- the chain of a name, of so many
unfoldable pub slot_of : List ℕ → ℕ → ℕ
slot_of w slots = mix_on 5381 w % slots

pub record First (w : List ℕ) (slots r : ℕ) : Type 0 where
  pub is : r ≡ slot_of w slots
  pub below : r < slots

abbrev pub chain_at : List ℕ → List ℕ → ℕ → ℕ → ℕ
chain_at text N slots k = slot_of (name_at text (get_or N k 0)) slots

-- v is one more than the last name of chain h among the first b, or 0 where there is none
pub record Last (text N : List ℕ) (slots b h v : ℕ) : Type 0 where
  pub to : v ≤ b
  pub own : 1 ≤ v → chain_at text N slots (v - 1) ≡ h
  pub none : (k : ℕ) → v ≤ k → k < b → chain_at text N slots k ≡ h → ⊥

-- THE INVARIANT: no name twice, and chains of falling numbers
pub record Interned (text N H X : List ℕ) (c : ℕ) : Type 0 where
  pub room : c ≤ length N
  pub linked : length N ≤ length X
  pub chains : 1 ≤ length H
  pub small : length N ≤ 4294967295
  pub short : length text ≤ 4294967295
  pub places : (k : ℕ) → k < c → get_or N k 0 ≤ length text
  pub unique : (j k : ℕ) → j < c → k < c → name_at text (get_or N j 0) ≡ name_at text (get_or N k 0) → j ≡ k
  pub heads : (h : ℕ) → h < length H → Last text N (length H) c h (get_or H h 0)
  pub links : (k : ℕ) → k < c → Last text N (length H) k (chain_at text N (length H) k) (get_or X k 0)

-- the lists may hold anything but for the heads
pub record Zeros (H : List ℕ) (n : ℕ) : Type 0 where
  pub zero : (k : ℕ) → k < n → get_or H k 0 ≡ 0

-- the name w has number r, or none
pub record Hit (text N : List ℕ) (c : ℕ) (w : List ℕ) (r : ℕ) : Type 0 where
  pub below : r < c
  pub name : name_at text (get_or N r 0) ≡ w

pub record Missed (text N : List ℕ) (c : ℕ) (w : List ℕ) : Type 0 where
  pub none : (k : ℕ) → k < c → name_at text (get_or N k 0) ≡ w → ⊥

-- what the search answers
abbrev pub Sought : (text N : List ℕ) (c : ℕ) (w : List ℕ) → Option ℕ → Type 0
Sought text N c w (Some r) = Hit text N c w r
Sought text N c w None = Missed text N c w

-- WHAT INTERNING ANSWERS of the name at `at`: its number r, the names with it, and its place behind theirs where it is new
pub record Interns (text N : List ℕ) (c at : ℕ) (N' H' X' : List ℕ) (r c' : ℕ) : Type 0 where
  pub store : Interned text N' H' X' c'
  pub more : c ≤ c'
  pub one : c' ≤ c + 1
  pub long : length N' ≡ length N
  pub dict : dict_of text N' c' ≡ with (dict_of text N c) (name_at text at)
  pub spots : take c' N' ≡ take c N ++ firsts (dict_of text N c) (name_at text at ∷ []) (at ∷ [])
  pub within : r < c'
  pub number : r ≡ number_of (name_at text at) (dict_of text N' c')
