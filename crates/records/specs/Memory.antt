-- A tree that was read, in memory: each of its lists fills an array from the front, with zeros behind it.
use Rattle.std.specs.Prelude.{ℕ, zero, suc, ◌-◌, List, [], ◌∷◌, ◌++◌, length, replicate, Result, Ok, Err}
use Rattle.paper.specs.Limits.{limits}
use Rattle.records.specs.Judge.{Book, Outcome, accept, refuse}
use Rattle.rules.specs.declared.Refusal.{Refusal}
use Rattle.records.specs.declared.Event.{Event}
use Rattle.records.specs.declared.Tree.{Tree}

-- xs, and z as often as it takes to make n of them
unfoldable pub pad {ℓ} : {A : Type ℓ} → ℕ → A → List A → List A
pad n z xs = xs ++ replicate (n - length xs) z

abbrev pub no_event : Event
no_event = record { chance = 0; site = 0 }

unfoldable pub memory : Book → Tree
memory b = record {
  events = pad limits.events no_event b.events;
  event_count = length b.events;
  sited = b.sited;
  kinds = pad limits.gates 0 b.kinds;
  leasts = pad limits.gates 0 b.leasts;
  sizes = pad limits.gates 0 b.sizes;
  gate_count = length b.sizes;
  inputs = pad limits.in_all 0 b.inputs;
}

-- what reading answers
unfoldable pub in_memory : Outcome → Result Tree Refusal
in_memory (accept b) = Ok (memory b)
in_memory (refuse a) = Err a

-- f 0 .. f (n - 1)
unfoldable pub tabulate : {A : Type 0} → ℕ → (ℕ → A) → List A
tabulate zero f = []
tabulate (suc n) f = tabulate n f ++ (f n ∷ [])
