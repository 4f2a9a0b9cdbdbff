-- AN ANALYSIS WITH NUMBER 0 DELIVERS, for every accepted tree: the bytes are a tree, and the promise holds of it.
-- Assumes nothing.
use mathlib.Core.Path.{◌≡◌}
use mathlib.Core.List.{List}
use Prim.Native.Nat.{ℕ}
use Rattle.records.specs.Trees.{tree_of}
use Rattle.trees.proofs.Lawful.{lawful}
use Rattle.memory.specs.Memory.{Memory}
use Rattle.memory.specs.Analysis.{Analysis}
use Rattle.analysis.proofs.Reading.{read_sound}
use Rattle.analyser.specs.Analysed.{Analysed}
use Rattle.promises.specs.Delivers.{Delivers}
use Rattle.promises.specs.Reasons.{Accepted}
use Rattle.promises.proofs.OnTables.{own_chances}
use Rattle.promises.proofs.AnyTree.{tree_delivers}
use Rattle.promises.proofs.Which.{finished_tree}

-- THE PROMISE
pub delivers : {bytes : List ℕ} {m m' : Memory} {a : Analysis} → Analysed bytes m m' a → a.number ≡ 0 → (t : Accepted bytes) × Delivers (tree_of t.book) m' a
delivers {bytes} x q =
    let (t, d) = finished_tree x q in
    let l = lawful bytes t.book t.is in
    (t, tree_delivers (tree_of t.book) (read_sound t.book l) (own_chances t.book l) d)
