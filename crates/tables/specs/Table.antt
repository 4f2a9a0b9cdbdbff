-- A table of nodes, three numbers each: event, failed branch, sound branch; and the diagram that a node number denotes.
-- 0 and 1 are the leaves and take no room; slot k, three numbers from 3 * k on, is node number k + 2.
-- Assumes nothing.
use Rattle.std.specs.Prelude.{true, false, List, ℕ, zero, suc, ◌+◌, ◌-◌, ◌*◌, get_or}
use Rattle.paper.specs.Diagrams.{Diagram, leaf, node}

-- the three numbers in slot k
abbrev pub event_at : List ℕ → ℕ → ℕ
event_at T k = get_or T (3 * k) 0

abbrev pub failed_at : List ℕ → ℕ → ℕ
failed_at T k = get_or T (3 * k + 1) 0

abbrev pub sound_at : List ℕ → ℕ → ℕ
sound_at T k = get_or T (3 * k + 2) 0

-- the same of node number i, which is at least 2
abbrev pub event_of : List ℕ → ℕ → ℕ
event_of T i = event_at T (i - 2)

abbrev pub failed_of : List ℕ → ℕ → ℕ
failed_of T i = failed_at T (i - 2)

abbrev pub sound_of : List ℕ → ℕ → ℕ
sound_of T i = sound_at T (i - 2)

-- node number i read as a tree, at most k nodes deep
unfoldable pub den_in : ℕ → List ℕ → ℕ → Diagram
den_in zero T i = leaf false
den_in (suc k) T zero = leaf false
den_in (suc k) T (suc zero) = leaf true
den_in (suc k) T (suc (suc j)) = node (event_at T j) (den_in k T (failed_at T j)) (den_in k T (sound_at T j))

-- the diagram of node number i: branches have lower numbers, so the number itself is deep enough
unfoldable pub den : List ℕ → ℕ → Diagram
den T i = den_in i T i
