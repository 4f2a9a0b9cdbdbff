-- The paper's number 8: an item that is an input nowhere.
use Rattle.std.specs.Prelude.{ℕ, zero, suc, ◌+◌, ◌-◌, ◌*◌, List, [], ◌∷◌, Bool, true, false, eqb, length, get_or, Option, Some, None}
use Rattle.paper.specs.Flat.{gates_from}
use Rattle.std.specs.Prelude.{if◌then◌else◌}
use Rattle.rules.specs.Format.{event_length}

-- whether x is one of the inputs
unfoldable pub among : ℕ → List ℕ → Bool
among x [] = false
among x (y ∷ ys) = if eqb y x then true else among x ys

-- the lowest i of the n from i on for which `from + i` is no input
unfoldable pub lowest_unused : ℕ → ℕ → ℕ → List ℕ → Option ℕ
lowest_unused zero i from inputs = None
lowest_unused (suc n) i from inputs = elim (among (from + i) inputs) [ true ↦ lowest_unused n (i + 1) from inputs | false ↦ Some i ]

-- of a tree with so many events, whose records have sites or not, and its gates' sizes and places, the place of the lowest unused event, else of the lowest unused gate
-- but the root
unfoldable pub unused_of : Bool → ℕ → List ℕ → List ℕ → List ℕ → Option ℕ
unused_of sited events sizes places inputs =
    elim (lowest_unused events 0 0 inputs) [
      | Some i ↦ Some (event_length sited * i)
      | None ↦
          elim (lowest_unused (length sizes - 1) 0 gates_from inputs) [
            | Some g ↦ Some (get_or places g 0)
            | None ↦ None
          ]
    ]
