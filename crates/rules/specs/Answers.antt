-- The paper's number and place of an answer.
use Rattle.std.specs.Prelude.{Result, Ok, Err}
use Rattle.paper.specs.Answers.{Verdict}
use Rattle.paper.specs.Refusals.{number}
use Rattle.paper.specs.declared.refusal.Refused.{Refused}
use Rattle.rules.specs.declared.Refusal.{Refusal}
use Rattle.rules.specs.declared.Refusal.TheVariants.{Cut, UnknownKind, OutOfPlace, Count, Threshold, Reference, Chance, Unused, Room, Narrow, Sited}

-- for each refusal
abbrev pub reason : Refusal → Verdict
reason (Cut p) = record { number = 1; place = p }
reason (UnknownKind p) = record { number = 2; place = p }
reason (OutOfPlace p) = record { number = 3; place = p }
reason (Count p) = record { number = 4; place = p }
reason (Threshold p) = record { number = 5; place = p }
reason (Reference p) = record { number = 6; place = p }
reason (Chance p) = record { number = 7; place = p }
reason (Unused p) = record { number = 8; place = p }
reason Room = record { number = 9; place = 0 }
reason (Narrow p) = record { number = 21; place = p }
reason (Sited p) = record { number = 22; place = p }

-- 0 where nothing is refused
abbrev pub verdict : {T : Type 0} → Result T Refusal → Verdict
verdict (Ok t) = record { number = 0; place = 0 }
verdict (Err a) = reason a

-- of a refusal as the calls above say it
abbrev pub said : Refused → Verdict
said r = record { number = number r.why; place = r.place }
