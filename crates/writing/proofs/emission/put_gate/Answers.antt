-- `writing::emission::put_gate` meets its contract.
-- Assumes nothing.
use native.Mathlib.Omega.{arith}
use lib.ListN.{length-set}
use borrow.Author.Tests.{eq-eqb, ne_eqb}
use Rattle.writing.proofs.Stores.{store_2, store_3}
use Rattle.writing.proofs.emission.put_gate.Goals as goal

pub bounds-b-0 : goal.bounds-b-0
bounds-b-0 c = omega (arith, simp (eq-eqb _ _ c.if-kind-eq4.true) at c.requires)

pub bounds-b-1 : goal.bounds-b-1
bounds-b-1 c = simp length-set (omega (arith, simp (eq-eqb _ _ c.if-kind-eq4.true) at c.requires))

pub bounds-b-2 : goal.bounds-b-2
bounds-b-2 c = simp length-set (omega (arith, simp (eq-eqb _ _ c.if-kind-eq4.true) at c.requires))

pub returns-then-kind-eq4 : goal.returns-then-kind-eq4
returns-then-kind-eq4 c = simp (eq-eqb _ _ c.if-kind-eq4.true) (store_3 c.args.b.now _ _ _ (simp (eq-eqb _ _ c.if-kind-eq4.true) at c.requires))

pub bounds-b-0-2 : goal.bounds-b-0-2
bounds-b-0-2 c = omega (arith, simp (ne_eqb _ _ c.if-kind-eq4.false) at c.requires)

pub bounds-b-1-2 : goal.bounds-b-1-2
bounds-b-1-2 c = simp length-set (omega (arith, simp (ne_eqb _ _ c.if-kind-eq4.false) at c.requires))

pub returns : goal.returns
returns c = simp (ne_eqb _ _ c.if-kind-eq4.false) (store_2 c.args.b.now _ _ (simp (ne_eqb _ _ c.if-kind-eq4.false) at c.requires))
