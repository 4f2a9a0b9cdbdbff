-- `pairs::take_apart`
use Rattle.pairs.proofs.Apart.{apart_first, apart_second, apart_both}
use Rattle.pairs.proofs.take_apart.Goals as goal

pub returns-then-a-b : goal.returns-then-a-b
returns-then-a-b c = apart_first c.requires.store c.requires.le_f.0 c.requires.le_f.1 c.requires.le_g.0 c.requires.le_g.1 c.if-a-b.true c.arranged.ensures

pub returns-then-b-a : goal.returns-then-b-a
returns-then-b-a c = apart_second c.requires.store c.requires.le_f.0 c.requires.le_f.1 c.requires.le_g.0 c.requires.le_g.1 c.if-b-a.true c.arranged-then-b-a.ensures

pub returns : goal.returns
returns c = apart_both c.requires.store c.requires.le_f.0 c.requires.le_f.1 c.requires.le_g.0 c.requires.le_g.1 c.if-a-b.false c.if-b-a.false c.arranged-2.ensures
