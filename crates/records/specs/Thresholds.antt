-- The paper's number 5: k of an at-least gate is 0 or above the number of its distinct inputs.
use Rattle.std.specs.Prelude.{ℕ, ◌-◌, Bool, ◌&&◌, List, eqb, length, get_or, take, drop}
use Rattle.paper.specs.Lists.{sum}
use Rattle.twins.specs.Distinct.{distinct_codes}
use Rattle.rules.specs.Rules.{wrong_k}
use Rattle.rules.specs.declared.judge.State.{State}

-- the inputs of gate g: as many as its size, behind those of the gates before it
abbrev pub inputs_at : List ℕ → List ℕ → ℕ → List ℕ
inputs_at sizes inputs g = take (get_or sizes g 0) (drop (sum (take g sizes)) inputs)

-- how many of them are distinct
abbrev pub distinct_at : List ℕ → List ℕ → ℕ → ℕ
distinct_at sizes inputs g = length (distinct_codes (inputs_at sizes inputs g))

-- whether gate g has a k that is 0 or above that
abbrev pub wrong_at : List ℕ → List ℕ → List ℕ → List ℕ → ℕ → Bool
wrong_at kinds leasts sizes inputs g = wrong_k (get_or kinds g 0) (get_or leasts g 0) (distinct_at sizes inputs g)

-- whether the last gate has all its inputs, and such a k
unfoldable pub starved_by : List ℕ → List ℕ → List ℕ → List ℕ → State → Bool
starved_by kinds leasts sizes inputs s = eqb s.left 0 && wrong_at kinds leasts sizes inputs (s.gates - 1)
