-- The same answer, computed.
-- Assumes nothing.
use Rattle.std.specs.Prelude.{Bool, false, cond, List, ℕ, ◌-◌}
use Rattle.paper.specs.Sets.{some_event}
use Rattle.sets.specs.Words.{set_of, room}
use Rattle.sidebyside.specs.Judge.{cuts_of, judge}
use Rattle.decision.specs.Searching.{any_in}
use Rattle.decision.specs.Answers.{Decided}

abbrev pub answer : ℕ → Bool → Decided
answer k b = record { number = k; place = 0; fails = b }

-- a set in words has no member beyond their room
unfoldable pub decision_of : List ℕ → ℕ → List ℕ → Decided
decision_of bytes n ws = cond (judge bytes) (cond (some_event (room ws - n) n (set_of ws)) (answer 13 false) (answer 0 (any_in (cuts_of bytes) (set_of ws)))) (answer 20 false)
