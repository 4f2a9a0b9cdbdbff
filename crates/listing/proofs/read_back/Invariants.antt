-- `listing::read_back` meets its contract. Assumes nothing.
use mathlib.Core.Path.{◌≡◌}
use mathlib.Core.List.{List}
use Prim.Native.Nat.{ℕ, ◌-◌}
use lib.ListN.{length}
use Rattle.sets.specs.Words.{words}
use Rattle.listing.specs.Bytes.{Stand}
use Rattle.listing.proofs.ReadBack.{Reading}
use Rattle.listing.proofs.read_back.Given as goal

abbrev pub invariant-loop-at : goal.invariant-loop-at
invariant-loop-at l = (length l.out ≡ words) × ((es : List ℕ) → Stand l.room l.from l.to es → Reading l.room l.to l.at l.out es)

abbrev pub decreases-loop-at : goal.decreases-loop-at
decreases-loop-at l = l.to - l.at
