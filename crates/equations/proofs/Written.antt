-- THE IMPORTED TREE can be written: its bytes are accepted, and reading them gives it back.
-- Assumes nothing.
use mathlib.Core.Path.{◌≡◌, sym, subst}
use mathlib.Core.List.{List}
use Prim.Native.Nat.{ℕ}
use Rattle.paper.specs.Limits.{limits}
use Rattle.records.specs.Judge.{Book, accept, outcome}
use Rattle.records.specs.Memory.{memory}
use Rattle.records.specs.declared.Tree.{Tree}
use Rattle.judging.specs.Bytes.{bytes_of}
use Rattle.trees.proofs.Exactly.{lawful_read_back}
use Rattle.equations.specs.Lists.{Lists}
use Rattle.equations.specs.Contract.{Imports}
use Rattle.equations.specs.Promises.{Means}
use Rattle.equations.specs.Imported.{Imported}
use Rattle.equations.proofs.Once.{imports_means}

-- the bytes of a tree are accepted, and say the tree
abbrev pub ReadBack : Tree → Type 0
ReadBack t = (c : Book) × (outcome limits (bytes_of t) ≡ accept c) × (memory c ≡ t)

means_read : (text : List ℕ) (t : Tree) → Means text t → ReadBack t
means_read text t m =
    let r = lawful_read_back _ m.lawful in
    subst ReadBack (sym m.is) (r.0, r.1, r.2)

pub imports_read_back : (text : List ℕ) (l l' : Lists) (a : Imported) → Imports text l l' a → a.number ≡ 0 → ReadBack a.tree
imports_read_back text l l' a i z = means_read text a.tree (imports_means text l l' a i z)
