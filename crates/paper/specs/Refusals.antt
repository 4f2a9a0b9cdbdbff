-- Why a call refuses: the number that the rules give each reason, and the number of an answer.
-- Assumes nothing.
use Rattle.std.specs.Prelude.{ℕ, Result, Ok, Err}
use Rattle.paper.specs.Answers.{Verdict}
use Rattle.paper.specs.declared.refusal.Refused.{Refused}
use Rattle.paper.specs.declared.refusal.Refusal.{Refusal}
use Rattle.paper.specs.declared.refusal.Refusal.TheVariants.{CutShort, UnknownKind, OutOfPlace, Count, Threshold, Reference, Chance, Unused, Length, NodesFull, CutsFull, NoDiagram, Beyond, Room, Line, LeftTwice, Ring, Roots, TooMany, BadListing, Narrow, Sited, Edition, Store}

abbrev pub number : Refusal → ℕ
number CutShort = 1
number UnknownKind = 2
number OutOfPlace = 3
number Count = 4
number Threshold = 5
number Reference = 6
number Chance = 7
number Unused = 8
number Length = 9
number NodesFull = 10
number CutsFull = 11
number NoDiagram = 12
number Beyond = 13
number Room = 14
number Line = 15
number LeftTwice = 16
number Ring = 17
number Roots = 18
number TooMany = 19
number BadListing = 20
number Narrow = 21
number Sited = 22
number Edition = 23
number Store = 24

-- of what a call answers: 0 where it is done
abbrev pub number_of : {A : Type 0} → Result A Refusal → ℕ
number_of (Ok _) = 0
number_of (Err why) = number why

-- its number and place, of a call that says where: both are 0 where it is done
abbrev pub verdict_of : {A : Type 0} → Result A Refused → Verdict
verdict_of (Ok _) = record { number = 0; place = 0 }
verdict_of (Err r) = record { number = number r.why; place = r.place }
