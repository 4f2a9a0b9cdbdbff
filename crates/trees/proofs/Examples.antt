-- Reading vectors, of the definitions themselves: each row is some bytes with their number and place.
-- Assumes nothing.
use mathlib.Core.Path.{◌≡◌, refl}
use mathlib.Core.List.{List, [], ◌∷◌, ◌++◌, map}
use Prim.Native.Nat.{ℕ}
use Rattle.paper.specs.Limits.{limits, old_limits}
use Rattle.paper.specs.Answers.{Verdict}
use Rattle.rules.specs.Format.{record_of, body_of}
use Rattle.rules.specs.Rules.{step_of}
use Rattle.records.specs.Thresholds.{starved_by}
use Rattle.records.specs.Uses.{among, lowest_unused, unused_of}
use Rattle.records.specs.Judge.{judge, outcome, run, next_step, close_of}

record Row : Type 0 where
  bytes : List ℕ
  answer : Verdict

abbrev row : List ℕ → ℕ → ℕ → Row
row bytes number place = record { bytes = bytes; answer = record { number = number; place = place } }

-- an event of chance 0, one of a tenth, and a certain one
abbrev ev : List ℕ
ev = 1 ∷ 0 ∷ 0 ∷ 0 ∷ 0 ∷ []

abbrev tenth : List ℕ
tenth = 1 ∷ 0x00 ∷ 0xE1 ∷ 0xF5 ∷ 0x05 ∷ []

abbrev certain : List ℕ
certain = 1 ∷ 0x00 ∷ 0xCA ∷ 0x9A ∷ 0x3B ∷ []

-- an event of chance 0 at site 513
abbrev sited : List ℕ
sited = 0x11 ∷ 0 ∷ 0 ∷ 0 ∷ 0 ∷ 1 ∷ 2 ∷ []

abbrev three : List ℕ
three = ev ++ (ev ++ ev)

abbrev case1 : List ℕ
case1 = tenth ++ (tenth ++ (tenth ++ (
    2 ∷ 2 ∷ 5 ∷ 0 ∷ 5 ∷ 1 ∷
    2 ∷ 2 ∷ 5 ∷ 1 ∷ 5 ∷ 2 ∷
    3 ∷ 2 ∷ 6 ∷ 0 ∷ 0 ∷ 6 ∷ 1 ∷ 0 ∷ 7 ∷ [])))

abbrev table : List Row
table =
    row case1 0 0
    ∷ row (case1 ++ (7 ∷ [])) 3 36
    ∷ row [] 1 0
    ∷ row (9 ∷ []) 2 0
    ∷ row (5 ∷ []) 1 0
    ∷ row (5 ∷ 0 ∷ []) 3 0
    ∷ row (7 ∷ []) 4 0
    ∷ row (7 ∷ 7 ∷ []) 3 1
    ∷ row (ev ++ (7 ∷ [])) 4 5
    ∷ row (ev ++ (2 ∷ 2 ∷ 5 ∷ 0 ∷ [])) 1 9
    ∷ row (ev ++ (2 ∷ 2 ∷ 5 ∷ 0 ∷ 7 ∷ [])) 3 9
    ∷ row (ev ++ (2 ∷ 2 ∷ 5 ∷ 0 ∷ 2 ∷ 0 ∷ [])) 3 9
    ∷ row (ev ++ (2 ∷ 1 ∷ 5 ∷ 0 ∷ 7 ∷ 0xFF ∷ [])) 3 10
    ∷ row (ev ++ (2 ∷ 1 ∷ 5 ∷ 0 ∷ 1 ∷ 0xFF ∷ 0xFF ∷ [])) 1 9
    ∷ row (ev ++ (2 ∷ 1 ∷ 5 ∷ 0 ∷ ev)) 3 9
    ∷ row (ev ++ (2 ∷ 0 ∷ [])) 4 5
    ∷ row (ev ++ (4 ∷ 65 ∷ 65 ∷ [])) 4 5
    ∷ row (ev ++ (4 ∷ 0 ∷ 0 ∷ [])) 4 5
    -- 5 comes after the gate's last input and before the next record, at the gate's record
    ∷ row (ev ++ (4 ∷ 2 ∷ 1 ∷ [])) 1 8
    ∷ row (ev ++ (4 ∷ 2 ∷ 1 ∷ 5 ∷ 0 ∷ [])) 5 5
    ∷ row (ev ++ (4 ∷ 0 ∷ 1 ∷ 5 ∷ 0 ∷ 9 ∷ [])) 5 5
    ∷ row (ev ++ (4 ∷ 3 ∷ 2 ∷ 5 ∷ 0 ∷ 5 ∷ 1 ∷ [])) 6 10
    ∷ row (ev ++ (4 ∷ 0 ∷ 2 ∷ 5 ∷ 0 ∷ 9 ∷ [])) 2 10
    ∷ row (ev ++ (4 ∷ 3 ∷ 2 ∷ 5 ∷ 0 ∷ [])) 1 10
    ∷ row (ev ++ (4 ∷ 3 ∷ 2 ∷ 5 ∷ 0 ∷ 2 ∷ 1 ∷ [])) 3 10
    -- a twin counts once; event 0 and gate 0 are two, and so are two gates with one function
    ∷ row (ev ++ (ev ++ (4 ∷ 3 ∷ 3 ∷ 5 ∷ 0 ∷ 5 ∷ 0 ∷ 5 ∷ 1 ∷ 7 ∷ []))) 5 10
    ∷ row (ev ++ (ev ++ (4 ∷ 2 ∷ 3 ∷ 5 ∷ 0 ∷ 5 ∷ 0 ∷ 5 ∷ 1 ∷ 7 ∷ []))) 0 0
    ∷ row (ev ++ (2 ∷ 1 ∷ 5 ∷ 0 ∷ 4 ∷ 2 ∷ 2 ∷ 5 ∷ 0 ∷ 6 ∷ 0 ∷ 0 ∷ 7 ∷ [])) 0 0
    ∷ row (ev ++ (2 ∷ 1 ∷ 5 ∷ 0 ∷ 3 ∷ 1 ∷ 5 ∷ 0 ∷ 4 ∷ 2 ∷ 2 ∷ 6 ∷ 0 ∷ 0 ∷ 6 ∷ 1 ∷ 0 ∷ 7 ∷ [])) 0 0
    ∷ row (ev ++ (2 ∷ 1 ∷ 5 ∷ 1 ∷ 7 ∷ [])) 6 7
    ∷ row (ev ++ (2 ∷ 1 ∷ 6 ∷ 0 ∷ 0 ∷ 7 ∷ [])) 6 7
    ∷ row (1 ∷ 0x01 ∷ 0xCA ∷ 0x9A ∷ 0x3B ∷ []) 7 0
    ∷ row (ev ++ (ev ++ (2 ∷ 1 ∷ 5 ∷ 0 ∷ 7 ∷ []))) 8 5
    ∷ row (ev ++ (2 ∷ 1 ∷ 5 ∷ 0 ∷ 2 ∷ 1 ∷ 5 ∷ 0 ∷ 7 ∷ [])) 8 5
    ∷ row (certain ++ (2 ∷ 1 ∷ 5 ∷ 0 ∷ 7 ∷ [])) 0 0
    -- kind 08: 1, then 3, then 21, whether the event is there or not, then 6
    ∷ row (three ++ (2 ∷ 1 ∷ 8 ∷ 5 ∷ [])) 1 17
    ∷ row (three ++ (8 ∷ 5 ∷ 0 ∷ [])) 3 15
    ∷ row (three ++ (2 ∷ 1 ∷ 5 ∷ 0 ∷ 8 ∷ 5 ∷ 0 ∷ [])) 3 19
    ∷ row (three ++ (2 ∷ 1 ∷ 8 ∷ 5 ∷ 0 ∷ [])) 21 17
    ∷ row (three ++ (2 ∷ 1 ∷ 8 ∷ 2 ∷ 0 ∷ [])) 21 17
    ∷ row (three ++ (2 ∷ 1 ∷ 8 ∷ 255 ∷ 0 ∷ [])) 21 17
    ∷ row (three ++ (2 ∷ 1 ∷ 8 ∷ 0 ∷ 1 ∷ [])) 6 17
    -- kind 11: 1, then 3 for a mixture, before 4 and 7, then 7; a site of any number, and the place of 8 by 7 bytes
    ∷ row (0x11 ∷ 0 ∷ 0 ∷ 0 ∷ 0 ∷ 0 ∷ []) 1 0
    ∷ row (sited ++ (2 ∷ 1 ∷ 5 ∷ 0 ∷ 7 ∷ [])) 0 0
    ∷ row (sited ++ (ev ++ (2 ∷ 2 ∷ 5 ∷ 0 ∷ 5 ∷ 1 ∷ 7 ∷ []))) 3 7
    ∷ row (ev ++ (sited ++ (2 ∷ 2 ∷ 5 ∷ 0 ∷ 5 ∷ 1 ∷ 7 ∷ []))) 3 5
    ∷ row (ev ++ (0x11 ∷ 0x01 ∷ 0xCA ∷ 0x9A ∷ 0x3B ∷ 0 ∷ 0 ∷ [])) 3 5
    ∷ row (sited ++ (0x11 ∷ 0x01 ∷ 0xCA ∷ 0x9A ∷ 0x3B ∷ 0 ∷ 0 ∷ [])) 7 7
    ∷ row (sited ++ (2 ∷ 1 ∷ 5 ∷ 0 ∷ sited)) 3 11
    ∷ row (sited ++ (sited ++ (sited ++ (2 ∷ 1 ∷ 5 ∷ 0 ∷ 7 ∷ [])))) 8 7
    ∷ []

vectors : map (λ (r : Row). judge limits r.bytes) table ≡ map (λ (r : Row). r.answer) table
unfolding judge outcome run next_step starved_by step_of record_of body_of close_of unused_of lowest_unused among
vectors = refl

-- AN OLD READER knows no kind 08 and no kind 11, whatever follows it and wherever it stands
abbrev old_table : List Row
old_table =
    row case1 0 0
    ∷ row (8 ∷ []) 2 0
    ∷ row (three ++ (2 ∷ 1 ∷ 8 ∷ 5 ∷ [])) 2 17
    ∷ row (three ++ (8 ∷ 5 ∷ 0 ∷ [])) 2 15
    ∷ row (three ++ (2 ∷ 1 ∷ 8 ∷ 5 ∷ 0 ∷ [])) 2 17
    ∷ row (three ++ (2 ∷ 1 ∷ 8 ∷ 0 ∷ 1 ∷ [])) 2 17
    ∷ row (sited ++ (2 ∷ 1 ∷ 5 ∷ 0 ∷ 7 ∷ [])) 2 0
    ∷ row (ev ++ sited) 2 5
    ∷ []

old_vectors : map (λ (r : Row). judge old_limits r.bytes) old_table ≡ map (λ (r : Row). r.answer) old_table
unfolding judge outcome run next_step starved_by step_of record_of body_of close_of unused_of lowest_unused among
old_vectors = refl
