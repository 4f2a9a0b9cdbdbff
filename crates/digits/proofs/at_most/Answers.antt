-- `digits::at_most` meets its contract. Assumes nothing.
use mathlib.Core.Path.{sym}
use mathlib.Core.Bool.{true≢false, false≢true}
use native.Mathlib.Omega.{arith}
use Rattle.digits.proofs.Steps.{agree_start, agree_again, agree_less, agree_all}
use Rattle.digits.proofs.at_most.Goals as goal

pub loop-k-init : goal.loop-k-init
loop-k-init c = agree_start c.requires.0 c.requires.1

pub returns-then-xs-k : goal.returns-then-xs-k
returns-then-xs-k c = (λ _. let h = agree_less c.requires.0 c.requires.1 c.loop-k.k (omega arith) c.loop-k.invariant c.if-xs-k.true in omega arith, λ z. absurd (true≢false z))

pub returns-then-ys-k : goal.returns-then-ys-k
returns-then-ys-k c = (λ z. absurd (false≢true z), λ _. agree_less c.requires.1 c.requires.0 c.loop-k.k (omega arith) (sym c.loop-k.invariant) c.if-ys-k.true)

pub returns : goal.returns
returns c = let e = agree_all c.args.xs.now c.args.ys.now (omega arith) c.loop-k.invariant in (λ _. omega arith, λ z. absurd (true≢false z))
