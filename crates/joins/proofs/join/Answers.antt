-- `joins::join`
use native.Mathlib.Omega.{arith}
use Rattle.std.specs.Prelude.{Ok}
use Rattle.joins.proofs.Recursion.{known, ready_arranged, joins_arranged}
use Rattle.joins.proofs.join.Goals as goal

pub returns-in-Node : goal.returns-in-Node
returns-in-Node c =
    joins_arranged c.requires c.min-f.ensures c.max-g.ensures c.args.nodes.now c.args.heads.now c.args.next.now c.args.memo.now (Ok (record { node = c.in-Node.node; count = c.args.count })) (known (ready_arranged c.requires c.min-f.ensures c.max-g.ensures) c.in-Node.ensures)

pub returns-in-Unknown : goal.returns-in-Unknown
returns-in-Unknown c =
    joins_arranged c.requires c.min-f.ensures c.max-g.ensures c.join_nodes.new.nodes c.join_nodes.new.heads c.join_nodes.new.next c.join_nodes.new.memo c.join_nodes.result c.join_nodes.ensures
