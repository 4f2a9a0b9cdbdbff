-- `gates::inputs::input_node`
use native.Mathlib.Omega.{arith}
use Rattle.gates.proofs.Rows.{names_event, names_gate, names_failed, names_sound}
use Rattle.gates.proofs.inputs.input_node.Goals as goal

pub returns-then-code-lt-GATES_FROM : goal.returns-then-code-lt-GATES_FROM
returns-then-code-lt-GATES_FROM c = names_event _ c.args.code c.args.nodes.now c.args.count c.event_node.new.nodes c.event_node.new.heads c.event_node.new.next c.event_node.result c.if-code-lt-GATES_FROM.true c.event_node.ensures

pub returns-then-code-lt-FAILED_FROM : goal.returns-then-code-lt-FAILED_FROM
returns-then-code-lt-FAILED_FROM c = names_gate c.requires.store c.requires.within c.if-code-lt-GATES_FROM.false c.if-code-lt-FAILED_FROM.true (c.requires.code_bound c.if-code-lt-FAILED_FROM.true)

pub returns-then-code-lt-SOUND_FROM : goal.returns-then-code-lt-SOUND_FROM
returns-then-code-lt-SOUND_FROM c = names_failed _ _ c.requires.store c.if-code-lt-FAILED_FROM.false c.if-code-lt-SOUND_FROM.true

pub returns : goal.returns
returns c = names_sound _ _ c.requires.store c.if-code-lt-SOUND_FROM.false
