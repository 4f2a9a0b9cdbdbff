-- Sets decided by listings, by computing.
-- Assumes nothing.
use Rattle.std.specs.Prelude.{◌≡◌, refl, true, false, List, [], ◌∷◌, map, ℕ}
use Rattle.paper.specs.Bytes.{same}
use Rattle.paper.specs.Listing.{member, member_bytes, cut_bytes}
use Rattle.sets.specs.Words.{bit, set_of}
use Rattle.sidebyside.specs.Members.{cuts_bytes}
use Rattle.sidebyside.specs.Judge.{push, cuts_from, rising_from, before, in_row, judge}
use Rattle.decision.specs.Searching.{any_in}
use Rattle.decision.specs.Deciding.{answer, decision_of}
use Rattle.decision.specs.Answers.{Decided}

-- the listing of the paper's case 1, {0, 1} and {1, 2}; with its last byte lost; and with its first cut again behind
abbrev case1 : List ℕ
case1 = 0x21 ∷ 0 ∷ 0x21 ∷ 1 ∷ 0x22 ∷ 0x21 ∷ 1 ∷ 0x21 ∷ 2 ∷ 0x22 ∷ []

abbrev broken : List ℕ
broken = 0x21 ∷ 0 ∷ 0x21 ∷ 1 ∷ 0x22 ∷ 0x21 ∷ 1 ∷ 0x21 ∷ 2 ∷ []

abbrev again : List ℕ
again = 0x21 ∷ 0 ∷ 0x21 ∷ 1 ∷ 0x22 ∷ 0x21 ∷ 1 ∷ 0x21 ∷ 2 ∷ 0x22 ∷ 0x21 ∷ 0 ∷ 0x21 ∷ 1 ∷ 0x22 ∷ []

-- {255} and {256}
abbrev apart : List ℕ
apart = 0x21 ∷ 255 ∷ 0x22 ∷ 0x23 ∷ 0 ∷ 1 ∷ 0x22 ∷ []

-- a listing, a number of events, the words of a set, and the answer
record Row : Type 0 where
  listing : List ℕ
  events : ℕ
  words : List ℕ
  answers : Decided

row : List ℕ → ℕ → List ℕ → Decided → Row
row l n ws d = record { listing = l; events = n; words = ws; answers = d }

-- case 1: all eight sets of its three events, {0, 3} of three events and of four; a fault behind a cut that the set contains, two ways, and before 13;
-- no cut, and the empty cut alone; members on both sides of 256, and 256 as an event beyond
table : List Row
table =
    row case1 3 (0 ∷ []) (answer 0 false)
    ∷ row case1 3 (1 ∷ []) (answer 0 false)
    ∷ row case1 3 (2 ∷ []) (answer 0 false)
    ∷ row case1 3 (3 ∷ []) (answer 0 true)
    ∷ row case1 3 (4 ∷ []) (answer 0 false)
    ∷ row case1 3 (5 ∷ []) (answer 0 false)
    ∷ row case1 3 (6 ∷ []) (answer 0 true)
    ∷ row case1 3 (7 ∷ []) (answer 0 true)
    ∷ row case1 3 (9 ∷ []) (answer 13 false)
    ∷ row case1 4 (9 ∷ []) (answer 0 false)
    ∷ row broken 3 (3 ∷ []) (answer 20 false)
    ∷ row again 3 (3 ∷ []) (answer 20 false)
    ∷ row broken 3 (9 ∷ []) (answer 20 false)
    ∷ row [] 3 (7 ∷ []) (answer 0 false)
    ∷ row (0x22 ∷ []) 3 (0 ∷ []) (answer 0 true)
    ∷ row apart 257 (0 ∷ 0 ∷ 0 ∷ 0 ∷ 1 ∷ []) (answer 0 true)
    ∷ row apart 257 (1 ∷ 0 ∷ 0 ∷ 0 ∷ 0 ∷ []) (answer 0 false)
    ∷ row apart 256 (0 ∷ 0 ∷ 0 ∷ 0 ∷ 1 ∷ []) (answer 13 false)
    ∷ []

as_they_decide : map (λ r. decision_of r.listing r.events r.words) table ≡ map (λ r. r.answers) table
unfolding row table decision_of any_in set_of bit judge same cuts_from push rising_from before in_row cuts_bytes cut_bytes member_bytes member
as_they_decide = refl
