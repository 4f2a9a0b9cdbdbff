-- `lines::line` meets its contract. Assumes nothing.
use native.Mathlib.Omega.{arith}
use mathlib.Core.Path.{sym}
use Rattle.lines.proofs.Lines.{line_open, line_closed}
use lib.Seq.{length-take-le}
use Rattle.lines.proofs.line.Goals as goal

pub line_end-stop-requires : goal.line_end-stop-requires
line_end-stop-requires c = omega (arith, c.requires)

pub returns-then-stop-text : goal.returns-then-stop-text
returns-then-stop-text c = line_open c.line_end-stop.ensures c.requires (omega (arith, c.if-stop-text.true))

pub slice_bounds-judge-end : goal.slice_bounds-judge-end
slice_bounds-judge-end c = sym (length-take-le c.line_end-stop.result c.args.text.now c.line_end-stop.ensures.inside)

pub judge-kind-requires : goal.judge-kind-requires
judge-kind-requires c = omega (arith, length-take-le c.line_end-stop.result c.args.text.now c.line_end-stop.ensures.inside, c.line_end-stop.ensures.from)

pub overflow_add-result : goal.overflow_add-result
overflow_add-result c = omega (arith, c.line_end-stop.ensures.inside, c.if-stop-text.false)

pub returns : goal.returns
returns c = line_closed c.line_end-stop.ensures c.judge-kind.result (omega (arith, c.line_end-stop.ensures.inside, c.if-stop-text.false)) c.judge-kind.ensures
