-- `writing::sites::first_site` meets its contract.
-- Assumes nothing.
use mathlib.Core.Path.{◌≡◌}
use Prim.Native.Nat.{◌-◌}
use Rattle.writing.specs.Sites.{lowest_sited}
use Rattle.writing.proofs.sites.first_site.Given as goal

abbrev pub invariant-loop-i : goal.invariant-loop-i
invariant-loop-i l = lowest_sited l.t.event_count 0 l.t.events ≡ lowest_sited (l.t.event_count - l.i) l.i l.t.events
