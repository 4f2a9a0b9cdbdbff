-- `text::put_pair` meets its contract. Assumes nothing.
use native.Mathlib.Omega.{arith}
use Rattle.decimals.proofs.Putting.{put_long, put_then}
use Rattle.decimals.proofs.Decimals.{decimal_long}
use Rattle.text.proofs.put_pair.Goals as goal

pub put-then-requires : goal.put-then-requires
put-then-requires c = omega (arith, c.put-at.ensures.to, c.put_number-next.ensures.to, decimal_long c.args.a, put_long c.put-at.ensures, put_long c.put_number-next.ensures, c.requires)

pub put_number-last-requires : goal.put_number-last-requires
put_number-last-requires c = omega (arith, c.put-at.ensures.to, c.put_number-next.ensures.to, c.put-then.ensures.to, decimal_long c.args.a, put_long c.put-at.ensures, put_long c.put_number-next.ensures, put_long c.put-then.ensures, c.requires)

pub put-requires : goal.put-requires
put-requires c = omega (arith, c.put-at.ensures.to, c.put_number-next.ensures.to, c.put-then.ensures.to, c.put_number-last.ensures.to, decimal_long c.args.a, decimal_long c.args.b, put_long c.put-at.ensures, put_long c.put_number-next.ensures, put_long c.put-then.ensures, put_long c.put_number-last.ensures, c.requires)

pub returns : goal.returns
returns c = put_then (put_then (put_then (put_then c.put-at.ensures c.put_number-next.ensures) c.put-then.ensures) c.put_number-last.ensures) c.put.ensures
