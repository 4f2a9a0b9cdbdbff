-- `planting::code` meets its contract. Assumes nothing.
use Rattle.planting.proofs.Putting.{code_event, code_gate}
use Rattle.planting.proofs.code.Goals as goal

pub returns-then-is_event : goal.returns-then-is_event
returns-then-is_event c = code_event c.args.starts.now c.args.inputs.now c.args.numbers.now c.args.y c.is_event.ensures c.if-is_event.true

pub returns : goal.returns
returns c = code_gate c.args.starts.now c.args.inputs.now c.args.numbers.now c.args.y c.is_event.ensures c.if-is_event.false
