-- `scanning::definitions::define` meets its contract. Assumes nothing.
use Rattle.std.proofs.Common.{arith}
use Rattle.names.proofs.Interning.{zeros_filled}
use Rattle.scanning.proofs.Defining.{defining_start, defining_end}
use Rattle.scanning.proofs.definitions.define.Goals as goal

pub loop-at-init : goal.loop-at-init
loop-at-init c = defining_start (omega (arith, c.fill.auto.self, c.requires.count_in_bounds)) (zeros_filled _ (c.fill.ensures.after (λ y e. e)))

pub define_line-w-requires : goal.define_line-w-requires
define_line-w-requires c = record { gathered = c.requires.gathered; defining = c.loop-at.invariant; at_in_bounds = c.loop-at-test.true }

pub loop-at-smaller : goal.loop-at-smaller
loop-at-smaller c = omega (arith, c.define_line-w.ensures.0, c.loop-at-test.true)

pub loop-at-preserved : goal.loop-at-preserved
loop-at-preserved c = c.define_line-w.ensures.1

pub returns : goal.returns
returns c = defining_end c.loop-at.invariant c.loop-at-test.false
