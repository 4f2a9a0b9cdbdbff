-- Document 000, examples 2 to 7, traced on (a or c) and (b or c), events a = 0, b = 1, c = 2.
-- Assumes nothing.
use Rattle.std.specs.Prelude.{◌≡◌, refl, true, false, [], ◌∷◌, map}
use Rattle.std.proofs.Math.Decide.{ℕ_discrete}
use Rattle.paper.specs.Sets.{members}
use Rattle.paper.specs.Diagrams.{Diagram, leaf, node}
use Rattle.paper.specs.Cuts.{sets_of}
use Rattle.algebra.specs.Operations.{join_d, event_d}
use Rattle.algebra.specs.Families.{mk_z, without_d, cuts_d}

-- the root's diagram, by its steps: figure 2
root : Diagram
root = join_d false (join_d true (event_d 0) (event_d 2)) (join_d true (event_d 1) (event_d 2))

-- b or c, and c
lower : Diagram
lower = node 1 (leaf true) (event_d 2)

as_drawn : root ≡ node 0 lower (event_d 2)
unfolding root lower ℕ_discrete
as_drawn = refl

-- the paths of the root's diagram to leaf 1 are {a, b}, {a, c} and {c}; the cuts are {a, b} and {c}
paths : map (members 3) (sets_of root) ≡ (0 ∷ 1 ∷ []) ∷ (0 ∷ 2 ∷ []) ∷ (2 ∷ []) ∷ []
unfolding root ℕ_discrete
paths = refl

-- without, then the cuts: {a, c} is covered by {c}
covered : without_d (cuts_d lower) (event_d 2) ≡ event_d 1
unfolding lower ℕ_discrete
covered = refl

-- sets of F that hold an event before G's, or lack G's event
kept : map (λ d. map (members 3) (sets_of d)) (without_d (node 0 (event_d 1) (event_d 2)) (event_d 1) ∷ without_d (event_d 2) (node 1 (leaf true) (leaf false)) ∷ [])
    ≡ ((2 ∷ []) ∷ []) ∷ ((2 ∷ []) ∷ []) ∷ []
unfolding ℕ_discrete
kept = refl

cuts : cuts_d root ≡ node 0 (event_d 1) (event_d 2)
unfolding root ℕ_discrete
cuts = refl

-- document 002, 4.3: in a family a node with failed branch 0 is dropped, and one with equal branches stays
dropped : mk_z 1 (leaf false) (event_d 2) ≡ event_d 2
dropped = refl

equal_branches_stay : mk_z 0 (leaf true) (leaf true) ≡ node 0 (leaf true) (leaf true)
equal_branches_stay = refl
