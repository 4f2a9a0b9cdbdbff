-- `sets::recount` meets its contract. Before word k `ahead` is right and n members stand. Assumes nothing.
use mathlib.Core.Path.{sym, ◌∙◌}
use Prim.Native.Nat.{◌/◌, ◌≤◌}
use lib.ListN.{get_or}
use lib.Count.{ones, ones-le}
use Rattle.sets.proofs.Beside.{low_word, high_word, recount_ahead, recount_start, recount_few, recount_more, recount_end}
use native.Mathlib.Omega.{arith}
use Rattle.sets.proofs.recount.Goals as goal
use Rattle.sets.proofs.recount.Goals.{After-shared_slice_known-1, After-shared_slice_known-in-loop-k-1}

few : (c : After-shared_slice_known-1) → ones (get_or c.args.ws.now (c.args.low / 64) 0) ≤ 64
few c = ones-le 64 _ (c.type_inv.ws (c.args.low / 64)).fits

few-2 : (c : After-shared_slice_known-in-loop-k-1) → ones (get_or c.args.ws.now c.loop-k.k 0) ≤ 64
few-2 c = ones-le 64 _ (c.type_inv.ws c.loop-k.k).fits

pub overflow_add-n : goal.overflow_add-n
overflow_add-n c = omega (arith, few c, recount_ahead c.requires.1 c.requires.2)

pub loop-k-init : goal.loop-k-init
loop-k-init c = recount_start c.requires.1 c.requires.2 (c.type_inv.ws (c.args.low / 64)).fits

pub overflow_add-n-in-loop-k : goal.overflow_add-n-in-loop-k
overflow_add-n-in-loop-k c = omega (arith, few-2 c, recount_few c.loop-k.invariant, high_word c.requires.1, c.requires.0)

pub loop-k-preserved : goal.loop-k-preserved
loop-k-preserved c = recount_more c.loop-k.invariant c.loop-k-test.true (omega (arith, high_word c.requires.1)) (c.type_inv.ws c.loop-k.k).fits

pub returns : goal.returns
returns c = recount_end c.loop-k.invariant c.requires.1 c.loop-k-test.false
