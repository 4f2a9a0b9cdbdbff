-- The search for the lowest event that has a site.
-- Assumes nothing.
use mathlib.Core.Path.{◌≡◌, refl}
use mathlib.Core.List.{List}
use Prim.Native.Nat.{ℕ, zero, suc, ◌+◌, ◌-◌, ◌≤◌, ◌<◌}
use native.Mathlib.Omega.{arith}
use lib.ListN.{get_or}
use borrow.Author.Tests.{eq-eqb, ne_eqb}
use Rattle.std.specs.Prelude.{Some, None}
use Rattle.records.specs.Memory.{no_event}
use Rattle.writing.specs.Sites.{lowest_sited}
use Rattle.records.specs.declared.Event.{Event}

module _ (count i : ℕ) (events : List Event) (h : i < count) where
  one_less : count - i ≡ suc (count - (i + 1))
  one_less = omega arith

  pub sited_past : (get_or events i no_event).site ≡ 0 → lowest_sited (count - i) i events ≡ lowest_sited (count - (i + 1)) (i + 1) events
  unfolding lowest_sited
  sited_past e = rw (one_less, eq-eqb _ _ e, lowest_sited)

  pub sited_here : ((get_or events i no_event).site ≡ 0 → ⊥) → lowest_sited (count - i) i events ≡ Some i
  unfolding lowest_sited
  sited_here e = rw (one_less, ne_eqb _ _ e, lowest_sited)

pub sited_none : (count i : ℕ) (events : List Event) → count ≤ i → lowest_sited (count - i) i events ≡ None
unfolding lowest_sited
sited_none count i events h =
    let z : count - i ≡ zero = omega arith in
    rw z

-- where no event has a site, none is found
pub none_sited : (n i : ℕ) (events : List Event) → ((e : ℕ) → i ≤ e → e < i + n → (get_or events e no_event).site ≡ 0) → lowest_sited n i events ≡ None
unfolding lowest_sited
none_sited zero i events h = refl
none_sited (suc n) i events h =
    rw (eq-eqb (get_or events i no_event).site 0 (h i (omega arith) (omega arith)), lowest_sited)
    (none_sited n (i + 1) events (λ e low high. h e (omega arith) (omega arith)))
