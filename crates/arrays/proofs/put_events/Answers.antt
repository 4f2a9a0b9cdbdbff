-- `arrays::put_events` meets its contract. Assumes nothing.
use native.Mathlib.Omega.{arith}
use mathlib.Core.Path.{◌≡◌, refl, ap}
use mathlib.Core.List.{List}
use Prim.Native.Nat.{ℕ, ◌≤◌, ◌<◌, min}
use lib.ListN.{get_or}
use Rattle.paper.specs.Limits.{limits}
use Rattle.records.specs.Memory.{no_event}
use Rattle.records.specs.declared.Event.{Event}
use Rattle.arrays.specs.Chances.{chances_of, sites_of, Blank}
use Rattle.arrays.proofs.Filling.{Front, front_none, front_more, front_all}
use Rattle.arrays.proofs.put_events.Goals as goal

-- behind the end of the loop there is nothing to put
at-the-end : (events : List Event) {count end i : ℕ} {C S : List ℕ} → Blank events count → (end < limits.events → count ≤ end)
    → Front (λ e. (get_or events e no_event).chance) 0 limits.events C i × Front (λ e. (get_or events e no_event).site) 0 limits.events S i → end ≤ i
    → (C ≡ chances_of events) × (S ≡ sites_of events)
unfolding chances_of sites_of
at-the-end events {count} {end} {i} b s f h =
    (front_all _ 0 f.0 (λ k l m. ap (λ (e : Event). e.chance) (blank k l m)), front_all _ 0 f.1 (λ k l m. ap (λ (e : Event). e.site) (blank k l m)))
  where
    blank : Blank events i
    blank k l m = b k (omega (arith, s (omega arith))) m

pub loop-i-init : goal.loop-i-init
loop-i-init c = (front_none _ 0 refl, front_none _ 0 refl)

pub loop-i-preserved : goal.loop-i-preserved
loop-i-preserved c = (front_more _ 0 c.loop-i.invariant.0 (omega arith), front_more _ 0 c.loop-i.invariant.1 (omega arith))

pub returns : goal.returns
returns c =
    let both = at-the-end _ {end = min c.args.count limits.events} c.requires (λ h. omega arith) c.loop-i.invariant (omega arith) in
    record { chances_after = both.0; sites_after = both.1 }
