-- `lists::run` meets its contract. Assumes nothing.
use native.Mathlib.Omega.{arith}
use mathlib.Core.Path.{sym}
use Prim.Native.Nat.{◌≤◌}
use lib.ListN.{length}
use lib.ListN.{replicate}
use lib.Seq.{length-take-le}
use Rattle.lists.proofs.run.Goals as goal

pub slice_bounds-answer-end : goal.slice_bounds-answer-end
slice_bounds-answer-end g c = let h : c.number-len.result.value ≤ length c.read_table-next.new.table = omega (arith, c.read_table-next.auto.table, c.if-long-gt-MOST.false) in sym (length-take-le c.number-len.result.value c.read_table-next.new.table h)

pub slice_bounds-answer-end-2 : goal.slice_bounds-answer-end-2
slice_bounds-answer-end-2 g c = sym (length-take-le c.number-room.result.value (replicate 1024 170) c.if-wide-gt-MOST.false)
