-- `lines::is_word` meets its contract. Assumes nothing.
use Rattle.std.proofs.Common.{◌∙◌}
use Rattle.lines.proofs.Names.{word_is}
use Rattle.lines.proofs.is_word.Goals as goal

pub returns : goal.returns
returns c = c.eq.ensures ∙ word_is c.requires c.args.w.now
