-- `text::put_line` meets its contract. Assumes nothing.
use native.Mathlib.Omega.{arith}
use Rattle.decimals.proofs.Putting.{put_long, put_then}
use Rattle.decimals.proofs.Decimals.{decimal_long}
use Rattle.text.proofs.put_line.Goals as goal

pub put-requires : goal.put-requires
put-requires c = omega (arith, c.put-a.ensures.to, c.put_number-b.ensures.to, decimal_long c.args.n, put_long c.put-a.ensures, put_long c.put_number-b.ensures, c.requires)

pub returns : goal.returns
returns c = put_then (put_then c.put-a.ensures c.put_number-b.ensures) c.put.ensures
