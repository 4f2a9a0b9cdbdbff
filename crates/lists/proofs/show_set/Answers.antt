-- `lists::show_set` meets its contract. Assumes nothing.
use native.Mathlib.Omega.{arith}
use Rattle.sets.proofs.Words.{lowest_on}
use Rattle.lists.proofs.show_set.Goals as goal

pub lowest-i-requires : goal.lowest-i-requires
lowest-i-requires g c = omega arith

pub loop-i-init : goal.loop-i-init
loop-i-init g c = c.lowest-i.ensures.within

pub lowest-i-requires-in-loop-i : goal.lowest-i-requires-in-loop-i
lowest-i-requires-in-loop-i g c = omega arith

pub loop-i-smaller : goal.loop-i-smaller
loop-i-smaller g c = omega (arith, lowest_on c.lowest-i-in-loop-i.ensures (omega arith), c.lowest-i-in-loop-i.ensures.within)

pub loop-i-preserved : goal.loop-i-preserved
loop-i-preserved g c = c.lowest-i-in-loop-i.ensures.within
