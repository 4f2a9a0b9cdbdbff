-- What stands in the array of a tree's chances, and which events of a tree that was read are all zero.
-- Assumes nothing.
use mathlib.Core.Path.{◌≡◌, sym, ap, ◌∙◌}
use mathlib.Core.List.{List}
use Prim.Native.Nat.{ℕ, ◌+◌, ◌-◌, ◌<◌}
use native.Mathlib.Omega.{arith}
use lib.ListN.{length, get_or, replicate, get_or-replicate}
use lib.Seq.{get_or-append-add}
use Rattle.paper.specs.Limits.{limits}
use Rattle.records.specs.Judge.{Book}
use Rattle.records.specs.Memory.{no_event, pad, memory}
use Rattle.records.specs.declared.Event.{Event}
use Rattle.arrays.specs.Chances.{chances_of, Blank}
use Rattle.arrays.proofs.Filling.{tabulate_long, tabulate_at}

pub chances_long : (events : List Event) → length (chances_of events) ≡ limits.events
unfolding chances_of
chances_long events = tabulate_long (λ e. (get_or events e no_event).chance) limits.events

pub chance_at : (events : List Event) (e : ℕ) → e < limits.events → get_or (chances_of events) e 0 ≡ (get_or events e no_event).chance
unfolding chances_of
chance_at events e h = tabulate_at (λ e. (get_or events e no_event).chance) limits.events e 0 h

blank_pad : (xs : List Event) → Blank (pad limits.events no_event xs) (length xs)
unfolding pad
blank_pad xs k l h =
    let n : ℕ = limits.events - length xs in
    let e : length xs + (k - length xs) ≡ k = omega arith in
    ap (λ i. get_or (pad limits.events no_event xs) i no_event) (sym e)
    ∙ get_or-append-add xs (replicate n no_event) (k - length xs) no_event
    ∙ get_or-replicate n (k - length xs) no_event no_event (omega arith)

-- a tree that was read
pub blank_read : (b : Book) → Blank (memory b).events (memory b).event_count
unfolding memory
blank_read b = blank_pad b.events
