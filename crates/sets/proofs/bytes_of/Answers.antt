-- `sets::bytes_of` meets its contract. Assumes nothing.
use borrow.Author.Tests.{le-leb, lt-leb}
use native.Mathlib.Omega.{arith}
use Rattle.paper.specs.Limits.{wide_from}
use Rattle.sets.specs.Beside.{bytes_by}
use Rattle.sets.proofs.bytes_of.Goals as goal

pub returns-then-b : goal.returns-then-b
unfolding bytes_by
returns-then-b c = rw (le-leb c.args.b wide_from c.if-b.true)

pub returns : goal.returns
unfolding bytes_by
returns c = rw (lt-leb c.args.b wide_from c.if-b.false)
