-- The leaves, and then the memo. Assumes nothing.
use native.Mathlib.Omega.{arith}
use Rattle.without.proofs.Apart.{ask_one, ask_none, ask_leaf, ask_memo}
use Rattle.without.proofs.ask.Goals as goal

pub returns-then-g-eq1 : goal.returns-then-g-eq1
returns-then-g-eq1 c =
    ask_one c.args.memo.now c.args.f c.args.g c.if-g-eq1.true

pub returns-then-g-lt2 : goal.returns-then-g-lt2
returns-then-g-lt2 c =
    ask_none c.args.memo.now c.args.f c.args.g (omega arith)

pub returns-then-f-lt2 : goal.returns-then-f-lt2
returns-then-f-lt2 c =
    ask_leaf c.args.memo.now c.args.f c.args.g (omega arith) c.if-f-lt2.true

pub returns : goal.returns
returns c =
    ask_memo c.args.memo.now c.args.f c.args.g (omega arith) (omega arith) c.recall.result c.recall.ensures
