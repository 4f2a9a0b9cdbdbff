-- Report calls one after another, each from the last set of the one before.
-- Assumes nothing.
use Rattle.std.specs.Prelude.{Bool, true, false, List, ◌++◌, ℕ, take}
use Rattle.report.specs.Answers.{Answered}

-- each was answered 0 under edition r, in a room of any size, and the last of them finished; and the bytes that they wrote, joined
pub data Joined (r n : ℕ) (T : List ℕ) (c root : ℕ) (A : List ℕ) : Bool → List ℕ → List ℕ → Type 0 where
  ends : {begin : Bool} {ws room room' F F' W W' : List ℕ} {edition place count used : ℕ} {last : List ℕ} → Answered r n T c root A begin ws room room' F F' W W' edition 0 place count used last true
      → Joined r n T c root A begin ws (take used room')
  goes : {begin : Bool} {ws room room' F F' W W' : List ℕ} {edition place count used : ℕ} {last : List ℕ} {finished : Bool} {bytes : List ℕ} → Answered r n T c root A begin ws room room' F F' W W' edition 0 place count used last finished
      → Joined r n T c root A false last bytes → Joined r n T c root A begin ws (take used room' ++ bytes)
