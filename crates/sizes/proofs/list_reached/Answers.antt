-- `sizes::list_reached` meets its contract. Assumes nothing.
use native.Mathlib.Omega.{arith}
use Rattle.sizes.proofs.Reaching.{listed}
use Rattle.sizes.proofs.list_reached.Goals as goal

pub returns : goal.returns
returns c = listed c.requires.held c.mark.ensures c.collect.ensures (omega (arith, c.requires.root_in_bounds))
