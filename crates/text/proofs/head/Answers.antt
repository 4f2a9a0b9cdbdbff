-- `text::head` meets its contract. Assumes nothing.
use native.Mathlib.Omega.{arith}
use mathlib.Core.Path.{refl}
use Rattle.text.specs.Lines.{events_word, gates_word, nodes_word}
use Rattle.decimals.proofs.Putting.{put_long, put_then}
use Rattle.text.proofs.Putting.{put_counts, line_long}
use Rattle.text.proofs.head.Goals as goal

pub put_line-b-requires : goal.put_line-b-requires
put_line-b-requires c = omega (arith, c.put_line-a.ensures.to, line_long events_word c.args.events, put_long c.put_line-a.ensures)

pub put_line-c-requires : goal.put_line-c-requires
put_line-c-requires c = omega (arith, c.put_line-a.ensures.to, c.put_line-b.ensures.to, line_long events_word c.args.events, line_long gates_word c.args.gates, put_long c.put_line-a.ensures, put_long c.put_line-b.ensures)

pub put-requires : goal.put-requires
put-requires c = omega (arith, c.put_line-a.ensures.to, c.put_line-b.ensures.to, c.put_line-c.ensures.to, line_long events_word c.args.events, line_long gates_word c.args.gates, line_long nodes_word c.args.nodes, put_long c.put_line-a.ensures, put_long c.put_line-b.ensures, put_long c.put_line-c.ensures)

pub returns : goal.returns
returns c = put_counts (put_then (put_then (put_then c.put_line-a.ensures c.put_line-b.ensures) c.put_line-c.ensures) c.put.ensures) refl
