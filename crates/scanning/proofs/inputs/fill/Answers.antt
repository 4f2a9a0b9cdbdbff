-- `scanning::inputs::fill` meets its contract. Assumes nothing.
use native.Mathlib.Omega.{arith}
use Rattle.scanning.proofs.Sites.{site_at}
use Rattle.scanning.proofs.Filling.{filling_start, filling_turn, filling_room, filling_small, filling_end}
use Rattle.scanning.proofs.Fitting.{inputs_fit}
use Rattle.scanning.proofs.inputs.fill.Goals as goal

pub loop-n-init : goal.loop-n-init
loop-n-init c = filling_start c.args.starts.now c.requires.count_in_bounds.0

pub fill_name-used-requires : goal.fill_name-used-requires
fill_name-used-requires c =
    record {
      gathered = c.requires.gathered;
      site = site_at c.requires.places (omega (arith, c.loop-n-test.true, c.place-c.ensures));
      n_in_bounds = filling_room c.loop-n.invariant (omega (arith, c.loop-n-test.true, c.place-c.ensures)) (omega (arith, inputs_fit c.requires.gathered, c.requires.count_in_bounds.1, c.loop-n.auto.inputs));
    }

pub overflow_cast-starts : goal.overflow_cast-starts
overflow_cast-starts c = omega (arith, filling_small c.loop-n.invariant (omega (arith, c.loop-n-test.true, c.place-c.ensures)) c.fill_name-used.ensures, inputs_fit c.requires.gathered, c.requires.gathered.store.short)

pub bounds-starts-n : goal.bounds-starts-n
bounds-starts-n c = omega (arith, c.loop-n-test.true, c.place-c.ensures, c.loop-n.invariant.long)

pub loop-n-preserved : goal.loop-n-preserved
loop-n-preserved c = filling_turn c.loop-n.invariant (omega (arith, c.loop-n-test.true, c.place-c.ensures)) c.fill_name-used.ensures

pub returns : goal.returns
returns c = filling_end c.loop-n.invariant (omega (arith, c.loop-n-test.false, c.place-c.ensures))
