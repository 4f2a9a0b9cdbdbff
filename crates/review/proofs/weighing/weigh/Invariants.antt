-- `review::weighing::weigh` meets its contract. Assumes nothing.
use mathlib.Core.Path.{◌≡◌}
use lib.ListN.{length}
use Rattle.review.specs.Weights.{Fews, Picks}
use Rattle.review.proofs.weighing.weigh.Given as goal

abbrev pub invariant-loop-i : goal.invariant-loop-i
invariant-loop-i l = (length l.few ≡ length l.initial.few) × (length l.picks ≡ length l.initial.picks) × Fews l.nodes l.few l.count l.i × Picks l.n l.chances l.nodes l.picks l.count l.i
