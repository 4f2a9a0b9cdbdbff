-- The sets of a diagram that miss K, by recursion over its nodes: whether there are any, the first, how many, and how many hold an event.
-- Assumes nothing.
use Rattle.std.specs.Prelude.{Bool, true, cond, not, ◌&&◌, ◌||◌, ℕ, ◌+◌, eqb}
use Rattle.paper.specs.Sets.{Set, none, put}
use Rattle.paper.specs.Diagrams.{Diagram, leaf, node}

-- some set misses K
unfoldable pub some_missing : Set → Diagram → Bool
some_missing K (leaf b) = b
some_missing K (node e f s) = (not (K e) && some_missing K f) || some_missing K s

-- the first that does, where there is one
unfoldable pub first_in : Set → Diagram → Set
first_in K (leaf b) = none
first_in K (node e f s) = cond (not (K e) && some_missing K f) (put e true (first_in K f)) (first_in K s)

-- how many do
unfoldable pub count_missing : Set → Diagram → ℕ
count_missing K (leaf b) = cond b 1 0
count_missing K (node e f s) = cond (K e) 0 (count_missing K f) + count_missing K s

-- how many do and hold e
unfoldable pub count_holding : Set → ℕ → Diagram → ℕ
count_holding K e (leaf b) = 0
count_holding K e (node x f s) = cond (K x) 0 (cond (eqb x e) (count_missing K f) (count_holding K e f)) + count_holding K e s
