-- `listing::read_back` meets its contract. Assumes nothing.
use native.Mathlib.Omega.{arith}
use mathlib.Core.Path.{sym, ap, ◌∙◌}
use lib.ListN.{length}
use Rattle.listing.proofs.ReadBack.{read_start, read_member, read_small, read_on, read_inside, read_more, read_end}
use Rattle.listing.proofs.read_back.Goals as goal

pub loop-at-init : goal.loop-at-init
loop-at-init c = (ap length c.empty-out.ensures, λ es s. read_start c.empty-out.ensures es s)

pub member_at-m-requires : goal.member_at-m-requires
member_at-m-requires c = read_member (c.loop-at.invariant.1 c.requires.events c.requires.stand) c.loop-at-test.true

pub add-requires : goal.add-requires
add-requires c = omega (arith, c.loop-at.invariant.0, read_small (c.loop-at.invariant.1 c.requires.events c.requires.stand) c.loop-at-test.true c.member_at-m.ensures)

pub overflow_add-at : goal.overflow_add-at
overflow_add-at c = omega (arith, c.requires.stand.inside, read_inside (c.loop-at.invariant.1 c.requires.events c.requires.stand) c.loop-at-test.true c.member_at-m.ensures)

pub loop-at-smaller : goal.loop-at-smaller
loop-at-smaller c = let g = c.loop-at.invariant.1 c.requires.events c.requires.stand in omega (arith, read_on g c.loop-at-test.true c.member_at-m.ensures, read_inside g c.loop-at-test.true c.member_at-m.ensures)

pub loop-at-preserved : goal.loop-at-preserved
loop-at-preserved c = (c.add.auto.ws ∙ c.loop-at.invariant.0, λ es s. read_more (c.loop-at.invariant.1 es s) c.loop-at-test.true c.member_at-m.ensures c.add.ensures)

pub returns : goal.returns
returns c = λ es s. read_end (c.loop-at.invariant.1 es s) c.loop-at-test.false
