-- Calls one after another, each from the last set of the one before.
-- Assumes nothing.
use Rattle.std.specs.Prelude.{Bool, true, false, List, ◌++◌, ℕ, take}
use Rattle.listing.specs.Answers.{Answered}

-- each was answered 0, in a room of any size, and the last of them finished; and the bytes that they wrote, joined
pub data Joined (n : ℕ) (T : List ℕ) (c root : ℕ) : Bool → List ℕ → List ℕ → Type 0 where
  ends : {begin : Bool} {ws room room' : List ℕ} {place count used : ℕ} {last : List ℕ} → Answered n T c root begin ws room room' 0 place count used last true
      → Joined n T c root begin ws (take used room')
  goes : {begin : Bool} {ws room room' : List ℕ} {place count used : ℕ} {last : List ℕ} {finished : Bool} {bytes : List ℕ} → Answered n T c root begin ws room room' 0 place count used last finished
      → Joined n T c root false last bytes → Joined n T c root begin ws (take used room' ++ bytes)
