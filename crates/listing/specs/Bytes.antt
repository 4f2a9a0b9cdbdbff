-- The bytes of a cut in a room.
-- Assumes nothing.
use Rattle.std.specs.Prelude.{◌≡◌, Option, Some, None, List, [], ◌∷◌, ◌++◌, ℕ, ◌+◌, ◌-◌, ◌≤◌, ◌<◌, length, take, drop}
use Rattle.paper.specs.Limits.{limits}
use Rattle.paper.specs.Sets.{of_events}
use Rattle.paper.specs.Listing.{member, member_bytes}
use Rattle.sets.specs.Words.{set_of}

-- the bytes of a cut were written behind the first `used` bytes of a room, r of them, where they fit
abbrev pub Placed : List ℕ → ℕ → List ℕ → Option ℕ → List ℕ → Type 0
Placed room used cut None room' = (length room < used + length cut) × (room' ≡ room)
Placed room used cut (Some r) room' = (r ≡ length cut) × (used + r ≤ length room) × (room' ≡ take used room ++ (cut ++ drop (used + r) room))

-- each of these events is below n
abbrev pub Below : ℕ → List ℕ → Type 0
Below n [] = Unit {0}
Below n (e ∷ es) = (e < n) × Below n es

-- the members es stand in a room from byte `from` to byte `to`
pub record Stand (room : List ℕ) (from to : ℕ) (es : List ℕ) : Type 0 where
  pub bytes : drop from room ≡ member_bytes es ++ drop to room
  pub ends : to ≡ from + length (member_bytes es)
  pub inside : to ≤ length room
  pub below : Below limits.events es

-- some members stand there
pub record SomeStand (room : List ℕ) (from to : ℕ) : Type 0 where
  pub events : List ℕ
  pub stand : Stand room from to events

-- the record of member e stands at `at`
pub record MemberAt (room : List ℕ) (at e : ℕ) : Type 0 where
  pub behind : List ℕ
  pub bytes : drop at room ≡ member e ++ behind

-- that of some member
pub record SomeMember (room : List ℕ) (at : ℕ) : Type 0 where
  pub event : ℕ
  pub stands : MemberAt room at event

-- a record read: whatever member's it is, that is its event and the number of its bytes
abbrev pub Told : List ℕ → ℕ → ℕ → ℕ → Type 0
Told room at event width = (e : ℕ) → MemberAt room at e → (event ≡ e) × (width ≡ length (member e))

-- members read back: whatever members they are, the words hold them
abbrev pub ReadBack : List ℕ → ℕ → ℕ → List ℕ → Type 0
ReadBack room from to ws = (es : List ℕ) → Stand room from to es → set_of ws ≡ of_events es

-- the last set, of a cut from byte `from` to byte `used`, or the one before it where there is no cut
abbrev pub LastRead : List ℕ → ℕ → ℕ → List ℕ → List ℕ → Type 0
LastRead room from used base ws = (used ≤ from → ws ≡ base) × (from < used → ReadBack room from (used - 1) ws)
