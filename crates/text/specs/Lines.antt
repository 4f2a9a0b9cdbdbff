-- THE PROGRAM'S LINES as bytes of text.
-- Assumes nothing.
use Rattle.std.specs.Prelude.{List, [], ◌∷◌, ◌++◌, ℕ}
use Rattle.paper.specs.Lists.{flat}
use Rattle.paper.specs.Sets.{Set, members}
use Rattle.paper.specs.Exporting.{decimal}

abbrev pub blank : List ℕ
blank = 32 ∷ []

abbrev pub line_end : List ℕ
line_end = 10 ∷ []

-- "events ", "gates ", "nodes ", "cuts", "top ", "refused ", " at "
abbrev pub events_word : List ℕ
events_word = 101 ∷ 118 ∷ 101 ∷ 110 ∷ 116 ∷ 115 ∷ 32 ∷ []

abbrev pub gates_word : List ℕ
gates_word = 103 ∷ 97 ∷ 116 ∷ 101 ∷ 115 ∷ 32 ∷ []

abbrev pub nodes_word : List ℕ
nodes_word = 110 ∷ 111 ∷ 100 ∷ 101 ∷ 115 ∷ 32 ∷ []

abbrev pub cuts_word : List ℕ
cuts_word = 99 ∷ 117 ∷ 116 ∷ 115 ∷ []

abbrev pub top_word : List ℕ
top_word = 116 ∷ 111 ∷ 112 ∷ 32 ∷ []

abbrev pub refused_word : List ℕ
refused_word = 114 ∷ 101 ∷ 102 ∷ 117 ∷ 115 ∷ 101 ∷ 100 ∷ 32 ∷ []

abbrev pub at_word : List ℕ
at_word = 32 ∷ 97 ∷ 116 ∷ 32 ∷ []

-- a word and a number
abbrev pub line_of : List ℕ → ℕ → List ℕ
line_of word n = word ++ decimal n ++ line_end

-- a word, a number, a word and a number
abbrev pub pair_of : List ℕ → ℕ → List ℕ → ℕ → List ℕ
pair_of word a between b = word ++ decimal a ++ between ++ decimal b ++ line_end

-- THE REFUSAL by a number at a place
abbrev pub refusal : ℕ → ℕ → List ℕ
refusal number place = pair_of refused_word number at_word place

-- THE HEAD: events, gates and nodes, and that cuts follow
abbrev pub head : ℕ → ℕ → ℕ → List ℕ
head events gates nodes = line_of events_word events ++ line_of gates_word gates ++ line_of nodes_word nodes ++ (cuts_word ++ line_end)

-- THE TOP's bracket
abbrev pub top : ℕ → ℕ → List ℕ
top low high = pair_of top_word low blank high

-- A CUT: its members with one blank between each and the next
abbrev pub behind : List ℕ → List ℕ
behind [] = line_end
behind (e ∷ es) = blank ++ decimal e ++ behind es

unfoldable pub cut_line : List ℕ → List ℕ
cut_line [] = line_end
cut_line (e ∷ es) = decimal e ++ behind es

-- some sets of n events, a line for each
abbrev pub cut_lines : ℕ → List Set → List ℕ
cut_lines n l = flat (λ S. cut_line (members n S)) l
