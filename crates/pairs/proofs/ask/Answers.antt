-- `pairs::ask`
use Rattle.pairs.proofs.Questions.{ask_same, ask_decides, ask_passes, ask_memo}
use Rattle.pairs.proofs.ask.Goals as goal

pub returns-then-f-g : goal.returns-then-f-g
returns-then-f-g c = ask_same c.if-f-g.true

pub returns-then-f-z : goal.returns-then-f-z
returns-then-f-z c = ask_decides c.if-f-lt2.true c.if-f-z.true

pub returns-then-f-lt2 : goal.returns-then-f-lt2
returns-then-f-lt2 c = ask_passes c.requires.z_bound c.if-f-lt2.true c.if-f-z.false

pub returns : goal.returns
returns c = ask_memo c.args.memo.now c.args.z c.args.f c.args.g c.recall.result c.if-f-lt2.false c.recall.ensures
