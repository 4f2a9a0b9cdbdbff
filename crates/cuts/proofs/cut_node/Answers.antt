-- Without, and the node over its result. Assumes nothing.
use mathlib.Core.Path.{refl}
use Prim.Native.Nat.{◌+◌, ◌-◌, ◌*◌}
use native.Mathlib.Omega.{arith}
use Rattle.std.proofs.lemmas.Result.{err_from_is_err_and}
use Rattle.cuts.proofs.Node.{failed_own, sound_own, node_ready, node_short, made_ready, node_made}
use Rattle.cuts.proofs.cut_node.Goals as goal

pub without-requires : goal.without-requires
without-requires c =
    node_ready c.requires

pub returns-in_err-b : goal.returns-in_err-b
returns-in_err-b c =
    let e = err_from_is_err_and c.from_residual.result c.from_residual.ensures.1 in
    rw (e.1, e.2) (node_short c.requires c.in_err-b.ensures)

pub returns : goal.returns
returns c = node_made c.requires c.in_ok-b.ensures c.make.new.nodes c.make.new.heads c.make.new.next c.make.result (c.make.ensures.family refl)
