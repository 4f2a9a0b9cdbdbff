-- `forcing::forced_code`
use Rattle.forcing.proofs.Codes.{code_gate, code_free, code_failed, code_sound}
use Rattle.forcing.proofs.forced_code.Goals as goal

pub returns-then-code-ge-GATES_FROM : goal.returns-then-code-ge-GATES_FROM
returns-then-code-ge-GATES_FROM c = code_gate c.args.states.now c.args.code c.if-code-ge-GATES_FROM.true

pub returns-then-state-eq0 : goal.returns-then-state-eq0
returns-then-state-eq0 c = code_free c.args.states.now c.args.code c.if-code-ge-GATES_FROM.false c.if-state-eq0.true

pub returns-then-state-eq1 : goal.returns-then-state-eq1
returns-then-state-eq1 c = code_failed c.args.states.now c.args.code c.if-code-ge-GATES_FROM.false c.if-state-eq1.true

pub returns : goal.returns
returns c = code_sound c.args.states.now c.args.code c.if-code-ge-GATES_FROM.false c.if-state-eq0.false c.if-state-eq1.false
