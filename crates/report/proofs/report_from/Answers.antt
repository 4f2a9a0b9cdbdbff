-- `report::report_from` meets its contract. Assumes nothing.
use mathlib.Core.Path.{ap, refl, ◌∙◌}
use Prim.Native.Nat.{ℕ}
use native.Mathlib.Omega.{arith}
use lib.ListN.{replicate}
use Rattle.walk.proofs.Paths.{rooted}
use borrow.Author.Rules.{rules}
use Rattle.report.proofs.report_from.Goals as goal

pub weigh-requires : goal.weigh-requires
weigh-requires c = (rooted c.requires.0 1 (omega arith), c.requires.2.chances, c.requires.3, omega (arith, c.requires.2.few, c.requires.0.fits), omega (arith, c.requires.2.picks, c.requires.0.fits))

pub report_cuts-l-requires : goal.report_cuts-l-requires
report_cuts-l-requires c = (c.requires.0, c.requires.1, c.weigh.ensures, refl, c.empty-set.ensures)

pub returns : goal.returns
returns c = (c.report_cuts-l.ensures, record { few = search rules; picks = search rules })
