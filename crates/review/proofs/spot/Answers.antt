-- `review::spot` meets its contract. Assumes nothing.
use mathlib.Core.Path.{refl, sym, ◌∙◌}
use native.Mathlib.Omega.{arith}
use Rattle.paper.specs.Cuts.{sets_of}
use Rattle.tables.specs.Table.{den}
use Rattle.walk.proofs.Paths.{around_none}
use Rattle.walk.proofs.Steps.{ended_zero, ended_as}
use Rattle.walk.proofs.After.{listed_all}
use Rattle.walk.proofs.Follow.{parts_none}
use Rattle.review.proofs.spot.Goals as goal

pub returns-then-root-eq0 : goal.returns-then-root-eq0
returns-then-root-eq0 c = ended_as (listed_all c.args.n c.args.nodes.now c.args.root c.args.begin c.args.s.now c.if-not-begin.false) (ended_zero c.requires.0 c.requires.2 c.if-root-eq0.true)

pub returns : goal.returns
returns c =
    let T = c.args.nodes.now in
    let all = listed_all c.args.n T c.args.root c.args.begin c.args.s.now c.if-not-begin.false ∙ sym (around_none T (sets_of (den T c.args.root))) in
    (record { path = c.requires.0; some = omega arith; is = all }, c.requires.2, parts_none c.requires.0 c.requires.2 c.args.root refl)
