-- The trees of a folder: one slice of bytes, cut by a list of lengths.
-- Assumes nothing.
use Rattle.std.specs.Prelude.{List, [], ◌∷◌, ℕ, take, drop}

-- THE BYTES OF EACH TREE, in the order of the lengths: as many as its length says, behind those of the trees before
unfoldable pub parts : List ℕ → List ℕ → List (List ℕ)
parts bytes [] = []
parts bytes (n ∷ ns) = take n bytes ∷ parts (drop n bytes) ns
