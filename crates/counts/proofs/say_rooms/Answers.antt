-- `counts::say_rooms` meets its contract. Assumes nothing.
use Rattle.std.proofs.Common.{arith}
use Rattle.counts.proofs.say_rooms.Goals as goal

pub answered-requires : goal.answered-requires
answered-requires g c = c.requires

pub answered-requires-then-nodes-gt0 : goal.answered-requires-then-nodes-gt0
answered-requires-then-nodes-gt0 g c = (omega (arith, c.requires.0), c.requires.1)

pub answered-requires-then-cut_nodes-gt0 : goal.answered-requires-then-cut_nodes-gt0
answered-requires-then-cut_nodes-gt0 g c = (c.requires.0, omega (arith, c.requires.1))
