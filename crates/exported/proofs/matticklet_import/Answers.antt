-- `exported::matticklet_import` meets its contract. Assumes nothing.
use Prim.Native.Nat.{ℕ}
use mathlib.Core.Path.{◌≡◌, refl}
use native.Mathlib.Omega.{arith}
use borrow.Author.Tests.{ne_eqb}
use Rattle.paper.specs.Refusals.{number}
use Rattle.paper.specs.declared.refusal.Refusal.{Refusal}
use Rattle.paper.proofs.Refusals.{number_above}
use Rattle.records.specs.Judge.{start}
use Rattle.records.specs.Memory.{memory}
use Rattle.records.specs.declared.Tree.{Tree}
use Rattle.equations.specs.Imported.{imported_of}
use Rattle.exported.specs.Arrays.{Arrays, filled}
use Rattle.exported.proofs.matticklet_import.Goals as goal

-- a refusal leaves the arrays as they are
left : (why : Refusal) (t : Tree) (before : Arrays) → before ≡ filled (number why) t before
left why t before = rw (ne_eqb (number why) 0 (λ z. omega (arith, z, number_above why))) refl

pub fill-requires : goal.fill-requires
fill-requires c = λ k l h. absurd (omega arith)

pub returns-in-Ok : goal.returns-in-Ok
returns-in-Ok c = (imported_of c.import-imported.result, (c.import-imported.ensures, (rw c.in-Ok.is refl, rw c.in-Ok.is c.fill.ensures)))

pub returns-in-Err : goal.returns-in-Err
unfolding memory
returns-in-Err c = (imported_of c.import-imported.result, (c.import-imported.ensures, (rw (c.in-Err.is, c.number.ensures) refl, rw c.in-Err.is (left _ (memory start) _))))
