-- The bytes of each tree of a folder, by their place.
-- Assumes nothing.
use mathlib.Core.Path.{◌≡◌, refl, ap, ◌∙◌}
use mathlib.Core.List.{List, [], ◌∷◌}
use Prim.Native.Nat.{ℕ, zero, suc, ◌<◌}
use native.Mathlib.Omega.{arith}
use lib.ListN.{length, get_or, take, drop}
use lib.Seq.{drop-drop}
use Rattle.paper.specs.Lists.{sum}
use Rattle.folder.specs.Parts.{parts}

pub parts_count : (bytes lengths : List ℕ) → length (parts bytes lengths) ≡ length lengths
unfolding parts
parts_count bytes [] = refl
parts_count bytes (n ∷ ns) = ap suc (parts_count (drop n bytes) ns)

-- tree i starts behind the trees before it
pub part_at : (bytes lengths : List ℕ) (i : ℕ) → i < length lengths → get_or (parts bytes lengths) i [] ≡ take (get_or lengths i 0) (drop (sum (take i lengths)) bytes)
unfolding parts
part_at bytes [] i h = absurd (omega arith)
part_at bytes (n ∷ ns) zero h = refl
part_at bytes (n ∷ ns) (suc i) h = part_at (drop n bytes) ns i (omega arith) ∙ ap (take (get_or ns i 0)) (drop-drop (sum (take i ns)) n bytes)
