-- `exported::listings::matticklet_first_difference` meets its contract. Assumes nothing.
use Rattle.changes.proofs.Stretches.{shows_in_low}
use borrow.Author.Rules.{rules}
use Rattle.std.specs.Prelude.{None, Some, Ok, Err}
use Rattle.exported.proofs.listings.matticklet_first_difference.Goals as goal

pub stretch-requires : goal.stretch-requires
stretch-requires c = shows_in_low c.args.yesterday.now c.args.today.now c.in-Ok-Some.d.side (rw c.in-Ok-Some.field-0-is at c.in-Ok-Some.ensures)

pub returns-in-Ok-Some : goal.returns-in-Ok-Some
returns-in-Ok-Some c = (Ok (Some c.in-Ok-Some.d), (rw c.in-Ok-Some.field-0-is at c.in-Ok-Some.ensures, c.stretch.ensures))

pub returns-in-Ok-None : goal.returns-in-Ok-None
returns-in-Ok-None c = (Ok None, (rw c.in-Ok-None.field-0-is at c.in-Ok-None.ensures, c.stretch-in-Ok-None.ensures))

pub returns-in-Err : goal.returns-in-Err
returns-in-Err c = (Err c.in-Err.side, (c.in-Err.ensures, c.stretch-in-Err.ensures))
