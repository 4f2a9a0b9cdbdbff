-- `lines::is_name` meets its contract. Assumes nothing.
use Rattle.std.proofs.Common.{arith, rules}
use Rattle.std.proofs.lemmas.Grind.{common_steps}
use Rattle.lines.proofs.Names.{name_is}
use Rattle.lines.proofs.is_name.Goals as goal

pub returns-then-is_ascii_alphabetic : goal.returns-then-is_ascii_alphabetic
unfolding Rattle.paper.specs.Bytes.letter
returns-then-is_ascii_alphabetic c = rw (← name_is c.requires) (search rules)

pub returns-else-is_ascii_alphabetic : goal.returns-else-is_ascii_alphabetic
unfolding Rattle.paper.specs.Bytes.letter
returns-else-is_ascii_alphabetic c = rw (← name_is c.requires) (grind (arith, common_steps))
