-- A set of events of the tree that a text says, as a set of names; and lines whose equations all have an input.
-- Assumes nothing.
use Rattle.std.specs.Prelude.{List, [], ◌∷◌, ℕ}
use Rattle.paper.specs.Sets.{Set}
use Rattle.paper.specs.Grammar.{Line, bad, chance, equation}
use Rattle.paper.specs.Texts.{Placed, says}
use Rattle.paper.specs.Equations.{dict_in, number_of}
use Rattle.paper.specs.Meaning.{Names, event_names, place_in}

-- the names whose events fail, by the events' numbers in the tree
abbrev pub under_numbers : List Placed → ℕ → Set → Names
under_numbers ls root v w = v (place_in (number_of w (dict_in ls)) (event_names ls root))

-- an equation has an input: the grammar has no other (`typed_filled`)
abbrev pub Filled : Line → Type 0
Filled bad = Unit {0}
Filled (chance x n) = Unit {0}
Filled (equation x c []) = ⊥
Filled (equation x c (y ∷ ys)) = Unit {0}

abbrev pub AllFilled : List Placed → Type 0
AllFilled [] = Unit {0}
AllFilled (says at l ∷ ls) = Filled l × AllFilled ls
