-- The paper's bytes are the paper's trees: cases 1 and 6, as they stand there, read into the trees of the table of cases. So no two kinds of gate can
-- be exchanged in definition and code alike.
-- Assumes nothing.
use mathlib.Core.Path.{◌≡◌, refl}
use mathlib.Core.List.{List, [], ◌∷◌, ◌++◌, map}
use Prim.Native.Nat.{ℕ}
use Rattle.paper.specs.Limits.{limits}
use Rattle.paper.specs.Trees.{Tree}
use Rattle.paper.specs.Flat.{gates_of}
use Rattle.paper.specs.Cases.{tenth, three, first, two_of_three}
use Rattle.rules.specs.Format.{record_of, body_of}
use Rattle.rules.specs.Rules.{step_of}
use Rattle.records.specs.Thresholds.{starved_by}
use Rattle.records.specs.Uses.{among, lowest_unused, unused_of}
use Rattle.records.specs.Judge.{outcome, run, next_step, close_of, Outcome, accept, refuse}
use Rattle.records.specs.Trees.{tree_of}

-- the tree of an outcome; of a refusal, none
abbrev pub trees : Outcome → List Tree
trees (accept b) = tree_of b ∷ []
trees (refuse a) = []

-- 01 00E1F505, three times
abbrev tenths : List ℕ
tenths =
    0x01 ∷ 0x00 ∷ 0xE1 ∷ 0xF5 ∷ 0x05 ∷
    0x01 ∷ 0x00 ∷ 0xE1 ∷ 0xF5 ∷ 0x05 ∷
    0x01 ∷ 0x00 ∷ 0xE1 ∷ 0xF5 ∷ 0x05 ∷ []

abbrev case1 : List ℕ
case1 = tenths ++ (
    0x02 ∷ 0x02 ∷ 0x05 ∷ 0x00 ∷ 0x05 ∷ 0x01 ∷
    0x02 ∷ 0x02 ∷ 0x05 ∷ 0x01 ∷ 0x05 ∷ 0x02 ∷
    0x03 ∷ 0x02 ∷ 0x06 ∷ 0x00 ∷ 0x00 ∷ 0x06 ∷ 0x01 ∷ 0x00 ∷ 0x07 ∷ [])

abbrev case6 : List ℕ
case6 = tenths ++ (0x04 ∷ 0x02 ∷ 0x03 ∷ 0x05 ∷ 0x00 ∷ 0x05 ∷ 0x01 ∷ 0x05 ∷ 0x02 ∷ 0x07 ∷ [])

-- THE TREES OF THE PAPER'S BYTES
the_papers_trees : map (λ b. trees (outcome limits b)) (case1 ∷ case6 ∷ []) ≡ (first ∷ []) ∷ (two_of_three ∷ []) ∷ []
unfolding outcome run next_step starved_by step_of record_of body_of close_of unused_of lowest_unused among tree_of gates_of tenth three first two_of_three
the_papers_trees = refl
