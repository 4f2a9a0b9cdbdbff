-- What stands beside a set from one cut to the next, so that only what changed is done again.
-- Assumes nothing.
use Rattle.std.specs.Prelude.{◌≡◌, List, ◌++◌, cond, ℕ, suc, ◌-◌, ◌*◌, ◌/◌, ◌≤◌, ◌<◌, leb, length, get_or}
use Rattle.paper.specs.Limits.{wide_from}
use Rattle.paper.specs.Sets.{Within, members}
use Rattle.paper.specs.Listing.{member_bytes}
use Rattle.sets.specs.Words.{set_of, room}

-- the events from low to high may have changed: the words have room for them, and no member is above high
pub record Between (ws : List ℕ) (low high : ℕ) : Type 0 where
  pub rise : low ≤ high
  pub inside : high < room ws
  pub within : Within (suc high) (set_of ws)

-- a number for each word, how many members stand ahead of it: right for the words up to that of event b
pub record Ahead (ws : List ℕ) (b : ℕ) (ahead : List ℕ) : Type 0 where
  pub long : length ahead ≡ length ws
  pub is : (k : ℕ) → k * 64 ≤ b → get_or ahead k 0 ≡ length (members (k * 64) (set_of ws))

-- a line: it begins with the bytes of the members below event b, and has room for those of as many as there may be
pub record Line (ws : List ℕ) (b : ℕ) (line : List ℕ) : Type 0 where
  pub long : 3 * room ws ≤ length line
  pub behind : List ℕ
  pub begins : line ≡ member_bytes (members b (set_of ws)) ++ behind

-- the bytes of so many members below event b, by two counts: two for each below event 256, which are counted ahead of their word, and three for each other
unfoldable pub bytes_by : List ℕ → ℕ → ℕ → ℕ
bytes_by ahead count b = cond (leb b wide_from) (2 * count) (3 * count - get_or ahead (wide_from / 64) 0)

-- the members below event 256 are counted, where b is above it, and are among these
pub record Counted (ahead : List ℕ) (count b : ℕ) : Type 0 where
  pub small : count ≤ 65536
  pub inside : wide_from < b → wide_from / 64 < length ahead
  pub among : wide_from < b → get_or ahead (wide_from / 64) 0 ≤ count
