-- The counts of a diagram by recursion over its nodes.
-- Assumes nothing.
use Rattle.std.specs.Prelude.{cond, ℕ, zero, suc, ◌+◌, max}
use Rattle.paper.specs.Diagrams.{Diagram, leaf, node}

-- the count of one member less: no set has less than none
abbrev pub lowered : (ℕ → ℕ) → ℕ → ℕ
lowered g zero = 0
lowered g (suc k) = g k

-- the sets of leaf 1: the empty set alone
abbrev pub single : ℕ → ℕ
single zero = 1
single (suc k) = 0

-- how many sets of k members: those of the failed branch get one member more
unfoldable pub sized : Diagram → ℕ → ℕ
sized (leaf b) k = cond b (single k) 0
sized (node e f s) k = lowered (sized f) k + sized s k

-- the most members of a set, where there is one: a failed branch adds one
unfoldable pub deepest : Diagram → ℕ
deepest (leaf b) = 0
deepest (node e f s) = max (deepest f + 1) (deepest s)
