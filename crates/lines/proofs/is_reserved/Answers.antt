-- `lines::is_reserved` meets its contract. Assumes nothing.
use Rattle.std.proofs.Common.{arith, rules}
use Rattle.std.proofs.lemmas.Grind.{common_steps}
use Rattle.lines.proofs.Names.{reserved_is}
use Rattle.lines.proofs.is_reserved.Goals as goal

pub returns-then-is_word-4 : goal.returns-then-is_word-4
returns-then-is_word-4 c = rw (← reserved_is) (search rules)

pub returns-else-is_word-4 : goal.returns-else-is_word-4
returns-else-is_word-4 c = rw (← reserved_is) (grind (arith, common_steps))
