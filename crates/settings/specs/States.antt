-- The states of the events as an array, their chances under an edition, and stores with more records.
-- Assumes nothing.
use Rattle.std.specs.Prelude.{◌≡◌, ◌≢◌, cond, List, [], ◌∷◌, ℕ, ◌≤◌, ◌<◌, leb, length, get_or, set}
use Rattle.paper.specs.Limits.{limits}
use Rattle.paper.specs.Answers.{Verdict}
use Rattle.paper.specs.Store.{free, Settings, state_of, Entry, accepted, refused_at, judge_store, settings_of}
use Rattle.paper.specs.Forcing.{chances_under}

abbrev pub all_free : Settings
all_free e = free

-- a byte of state for each event
abbrev pub states_in : List ℕ → Settings
states_in states e = state_of (get_or states e 0)

-- after one record more
abbrev pub states_after : ℕ → Entry → List ℕ → List ℕ
states_after asked r states = cond (leb r.edition asked) (set states r.event r.state) states

-- a number and its place
pub record Gives (v : Verdict) (number place : ℕ) : Type 0 where
  pub number_is : number ≡ v.number
  pub place_is : place ≡ v.place

-- WHAT BECOMES OF THE CHANCES C of as many events under an edition: 24 or 13, then 9 where there are more than a tree can have, or done
pub data ChancesForced (store : List ℕ) (asked : ℕ) (C C' : List ℕ) (number place : ℕ) : Type 0 where
  bad_store : (judge_store (length C) store).number ≢ 0 → Gives (judge_store (length C) store) number place → C' ≡ C → ChancesForced store asked C C' number place
  too_many : judge_store (length C) store ≡ accepted → limits.events < length C → Gives (refused_at 9 0) number place → C' ≡ C → ChancesForced store asked C C' number place
  done : judge_store (length C) store ≡ accepted → length C ≤ limits.events → Gives accepted number place → C' ≡ chances_under (settings_of asked store) C
      → ChancesForced store asked C C' number place

-- the records more are rs with some records of editions above the asked one added, wherever
pub data Added (asked : ℕ) : (rs more : List Entry) → Type 0 where
  none : Added asked [] []
  same : (r : Entry) {rs more : List Entry} → Added asked rs more → Added asked (r ∷ rs) (r ∷ more)
  above : (r : Entry) {rs more : List Entry} → asked < r.edition → Added asked rs more → Added asked rs (r ∷ more)
