-- `planner::judge_members` meets its contract. Assumes nothing.
use mathlib.Core.Path.{ap}
use native.Mathlib.Omega.{arith}
use lib.ListN.{length}
use Rattle.sets.specs.Words.{set_of}
use Rattle.planner.proofs.Checking.{searched_of, try_drop, try_end, within_set, less_beyond, area_kept}
use Rattle.planner.proofs.judge_members.Goals as goal

pub returns-in-Ok-None : goal.returns-in-Ok-None
returns-in-Ok-None c =
    let m = rw c.in-Ok-None.field-0-is at c.in-Ok-None.ensures in
    let s = searched_of m c.requires.passed.diagram (omega (arith, c.requires.passed.room, ap length c.loop-e.invariant.0)) (less_beyond c.loop-e.e c.remove.ensures c.requires.passed.within) in
    (try_drop c.requires.passed.diagram c.loop-e.invariant.1 c.requires.none_left c.loop-e-test.true s.finds.0 c.remove.ensures, area_kept c.requires.zero c.loop-e.invariant.0 s.area)

pub returns : goal.returns
returns c = (try_end c.requires.passed.diagram c.loop-e.invariant.1 c.requires.none_left (within_set (set_of c.args.set) c.requires.passed.within) c.loop-e-test.false, c.loop-e.invariant.0)
