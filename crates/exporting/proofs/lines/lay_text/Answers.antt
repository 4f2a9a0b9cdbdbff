-- `exporting::lines::lay_text` meets its contract. Assumes nothing.
use Rattle.exporting.proofs.Chances.{lay_text}
use Rattle.exporting.proofs.lines.lay_text.Goals as goal

pub returns : goal.returns
returns c = lay_text c.args.tree c.lay_gates-at.ensures.0 c.lay_chances.ensures
