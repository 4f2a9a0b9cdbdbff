-- `scanning::numbering::gather` meets its contract. Assumes nothing.
use native.Mathlib.Omega.{arith}
use Rattle.scanning.proofs.Gathering.{all_start, all_turn, all_end}
use Rattle.names.proofs.Interning.{zeros_filled}
use Rattle.scanning.proofs.numbering.gather.Goals as goal

pub loop-at-init : goal.loop-at-init
loop-at-init c = all_start c.requires c.fill.auto.self (zeros_filled _ (c.fill.ensures.after (λ y e. e)))

pub gather_line-w-requires : goal.gather_line-w-requires
gather_line-w-requires c =
    record {
      interned = c.loop-at.invariant.store;
      room = c.loop-at.invariant.room;
      at_in_bounds = c.loop-at-test.true;
    }

pub loop-at-smaller : goal.loop-at-smaller
loop-at-smaller c = omega (arith, c.gather_line-w.ensures.after, c.loop-at-test.true)

pub loop-at-preserved : goal.loop-at-preserved
loop-at-preserved c = all_turn c.loop-at.invariant c.gather_line-w.ensures

pub returns : goal.returns
returns c = all_end c.loop-at.invariant c.loop-at-test.false
