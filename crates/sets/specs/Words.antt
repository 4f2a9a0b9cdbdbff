-- A set of events in words of 64 bits. Nothing but `words` depends on the number of words.
-- Assumes nothing.
use Rattle.std.specs.Prelude.{◌≡◌, true, false, List, ℕ, ◌*◌, ◌/◌, ◌%◌, ◌^◌, ◌≤◌, ◌<◌, eqb, length, get_or}
use Rattle.paper.specs.Limits.{limits}
use Rattle.paper.specs.Sets.{Set, members}

-- so many words hold every event
abbrev pub words : ℕ
words = limits.events / 64

-- bit j of the number w
unfoldable pub bit : ℕ → ℕ → ℕ
bit w j = w / 2 ^ j % 2

-- THE SET that words denote: event i is a member exactly if bit i % 64 of word i / 64 is set
unfoldable pub set_of : List ℕ → Set
set_of ws i = eqb (bit (get_or ws (i / 64) 0) (i % 64)) 1

-- the events that words have room for
abbrev pub room : List ℕ → ℕ
room ws = length ws * 64

-- what every array of k words keeps
pub record Array (k : ℕ) (ws : List ℕ) : Type 0 where
  pub long : length ws ≡ k
  pub fit : (i : ℕ) → get_or ws i 0 < 2 ^ 64

-- few enough words that their events can be counted
abbrev pub Few : List ℕ → Type 0
Few ws = length ws < 1024

-- the number of members
abbrev pub size_of : List ℕ → ℕ
size_of ws = length (members (room ws) (set_of ws))

-- t is the place of the lowest set bit of w, a number of k bits
pub record Trail (w k t : ℕ) : Type 0 where
  pub below : t < k
  pub set : bit w t ≡ 1
  pub clear : (j : ℕ) → j < t → bit w j ≡ 0

-- r is the lowest member of S from i on, or n where none is below n
pub record Lowest (S : Set) (n i r : ℕ) : Type 0 where
  pub within : r ≤ n
  pub above : r < n → i ≤ r
  pub is : r < n → S r ≡ true
  pub clear : (j : ℕ) → i ≤ j → j < r → S j ≡ false
