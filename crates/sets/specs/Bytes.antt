-- The bytes of a set in words.
-- Assumes nothing.
use Rattle.std.specs.Prelude.{◌≡◌, Option, Some, None, List, ◌++◌, ℕ, ◌+◌, ◌-◌, ◌≤◌, ◌<◌, eqb, length, take, drop}
use Rattle.paper.specs.Lists.{keep, up_to}
use Rattle.paper.specs.Sets.{Set, members}
use Rattle.paper.specs.Listing.{member, member_bytes}
use Rattle.sets.specs.Words.{bit, set_of, room}

-- the set of a word whose bit 0 is event m, and its members
unfoldable pub word_set : ℕ → ℕ → Set
word_set w m i = eqb (bit w (i - m)) 1

unfoldable pub in_word : ℕ → ℕ → List ℕ
in_word w m = keep (word_set w m) (up_to 64 m)

-- the bytes of member e were written behind `at` bytes of a room r; they end at `end`
pub record Put (e at : ℕ) (r r' : List ℕ) (end : ℕ) : Type 0 where
  pub ends : end ≡ at + length (member e)
  pub bytes : r' ≡ take at r ++ (member e ++ drop end r)

-- those of a word's members were written behind `at` bytes of a room r; they end at `end`
pub record Told (w m at : ℕ) (r r' : List ℕ) (end : ℕ) : Type 0 where
  pub ends : end ≡ at + length (member_bytes (in_word w m))
  pub bytes : r' ≡ take at r ++ (member_bytes (in_word w m) ++ drop end r)

-- those of the members below event b were written at the front of a room r; they end at `end`
pub record Spelled (ws r r' : List ℕ) (b end : ℕ) : Type 0 where
  pub ends : end ≡ length (member_bytes (members b (set_of ws)))
  pub bytes : r' ≡ member_bytes (members b (set_of ws)) ++ drop end r

-- a room that begins with those of the members below event b, and is long enough for all
pub record Begun (ws : List ℕ) (b : ℕ) (r : List ℕ) (end : ℕ) : Type 0 where
  pub fits : length (member_bytes (members (room ws) (set_of ws))) ≤ length r
  pub begins : Spelled ws r r b end

-- the bytes of a cut were written at the front of a room, r of them, where they fit
abbrev pub Laid : List ℕ → List ℕ → Option ℕ → List ℕ → Type 0
Laid cut room None room' = (length room < length cut) × (room' ≡ room)
Laid cut room (Some r) room' = (r ≡ length cut) × (r ≤ length room) × (room' ≡ cut ++ drop r room)
