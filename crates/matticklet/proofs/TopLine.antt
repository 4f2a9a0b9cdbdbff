-- The line behind the cuts, from the bracket's answer.
-- Assumes nothing.
use mathlib.Core.Path.{◌≡◌, ap₂}
use mathlib.Core.List.{List}
use Prim.Native.Nat.{ℕ}
use Rattle.records.specs.declared.Tree.{Tree}
use Rattle.followup.specs.Tops.{low_of, high_of, Topped}
use Rattle.text.specs.Lines.{top}

pub top_line : {t : Tree} {T : List ℕ} {root number place lo hi : ℕ} → Topped t T root number place lo hi → top lo hi ≡ top (low_of t T root) (high_of t T root)
top_line x = ap₂ top x.low_is x.high_is
