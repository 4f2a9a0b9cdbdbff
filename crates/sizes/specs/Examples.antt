-- The definitions on small families, and on trees of the rules.
-- Assumes nothing.
use Rattle.std.specs.Prelude.{◌≡◌, refl, true, false, List, [], ◌∷◌, map, ℕ}
use Rattle.paper.specs.Lists.{up_to}
use Rattle.paper.specs.Diagrams.{Diagram, leaf, node}
use Rattle.paper.specs.Trees.{gate_funs, root_fun}
use Rattle.paper.specs.Cuts.{cut_list}
use Rattle.paper.specs.Sizes.{size_of, of_size, count_of, cuts_of_size}
use Rattle.paper.specs.Cases.{tenth, three, first, two_of_three}
use Rattle.sizes.specs.Recursion.{sized}

-- none; the empty set; {0, 1} and {1, 2}; {0}, {1}, {0, 1, 2} and the empty set, no antichain
abbrev table : List Diagram
table =
    leaf false ∷ leaf true ∷ node 0 (node 1 (leaf true) (leaf false)) (node 1 (node 2 (leaf true) (leaf false)) (leaf false))
    ∷ node 0 (node 1 (node 2 (leaf true) (leaf false)) (leaf true)) (node 1 (leaf true) (leaf true)) ∷ []

abbrev expected : List (List ℕ)
expected = (0 ∷ 0 ∷ 0 ∷ 0 ∷ []) ∷ (1 ∷ 0 ∷ 0 ∷ 0 ∷ []) ∷ (0 ∷ 0 ∷ 2 ∷ 0 ∷ []) ∷ (1 ∷ 2 ∷ 0 ∷ 1 ∷ []) ∷ []

counts : map (λ d. map (λ k. count_of 3 k d) (up_to 4 0)) table ≡ expected
unfolding of_size size_of
counts = refl

recursion : map (λ d. map (λ k. sized d k) (up_to 4 0)) table ≡ expected
unfolding sized
recursion = refl

-- case 1 has two cuts of two members, case 6 three
cuts : map (λ t. map (cuts_of_size t) (up_to 4 0)) (first ∷ two_of_three ∷ []) ≡ (0 ∷ 0 ∷ 2 ∷ 0 ∷ []) ∷ (0 ∷ 0 ∷ 3 ∷ 0 ∷ []) ∷ []
unfolding of_size size_of tenth three first two_of_three gate_funs root_fun cut_list
cuts = refl
