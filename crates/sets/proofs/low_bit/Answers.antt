-- `sets::low_bit` meets its contract. Assumes nothing.
use native.Mathlib.Omega.{arith}
use lib.Count.{trailing_le}
use Rattle.sets.proofs.Bit.{trail}
use Rattle.sets.proofs.low_bit.Goals as goal

pub returns : goal.returns
returns c = trail 64 c.args.w c.requires c.ranges.w.fits
