-- `exporting::pieces::lay_input` meets its contract. Assumes nothing.
use Rattle.exporting.proofs.Laying.{lay_same}
use Rattle.exporting.proofs.Rows.{event_name_lem, gate_name_lem, failed_name, sound_name}
use native.Mathlib.Omega.{arith}
use Rattle.exporting.proofs.pieces.lay_input.Goals as goal

pub returns-then-code-lt-GATES_FROM : goal.returns-then-code-lt-GATES_FROM
returns-then-code-lt-GATES_FROM c = let (p, near) = c.lay_number.ensures in (lay_same (event_name_lem c.args.code c.if-code-lt-GATES_FROM.true) p, omega (arith, near))

pub returns-then-code-lt-FAILED_FROM : goal.returns-then-code-lt-FAILED_FROM
returns-then-code-lt-FAILED_FROM c = let (p, near) = c.lay_number-then-code-lt-FAILED_FROM.ensures in (lay_same (gate_name_lem c.args.code c.if-code-lt-GATES_FROM.false c.if-code-lt-FAILED_FROM.true) p, omega (arith, near))

pub returns-then-code-lt-SOUND_FROM : goal.returns-then-code-lt-SOUND_FROM
returns-then-code-lt-SOUND_FROM c = let (p, near) = c.lay_number-then-code-lt-SOUND_FROM.ensures in (lay_same (failed_name c.args.code c.if-code-lt-FAILED_FROM.false c.if-code-lt-SOUND_FROM.true) p, omega (arith, near))

pub returns : goal.returns
returns c = let (p, near) = c.lay_number-2.ensures in (lay_same (sound_name c.args.code c.if-code-lt-SOUND_FROM.false) p, omega (arith, near))
