-- The paper's rules for a gate and its inputs, at diagrams.
-- Assumes nothing.
use Rattle.std.specs.Prelude.{cond, List, ◌++◌, map, ℕ, eqb}
use Rattle.paper.specs.Trees.{Input, Gate, distinct_inputs}
use Rattle.paper.specs.Steps.{input, value, event_steps, steps}
use Rattle.paper.specs.Diagrams.{Diagram, leaf}
use Rattle.algebra.specs.Operations.{join_d, event_d}
use Rattle.gates.specs.Kinds.{kind_d, kind_steps_d}

-- gs are the diagrams of the gates before
abbrev pub input_d : List Diagram → Input → Diagram
input_d = input event_d leaf join_d

abbrev pub event_steps_d : List Input → List Diagram
event_steps_d = event_steps event_d leaf join_d

abbrev pub value_d : List Diagram → Gate → Diagram
value_d = value event_d leaf join_d

abbrev pub steps_d : List Diagram → Gate → List Diagram
steps_d = steps event_d leaf join_d

-- ---- a gate over the inputs that count

-- all of an and or an or, and of any other kind the distinct ones
abbrev pub counted : ℕ → List Input → List Input
counted kind is = cond (eqb kind 2) is (cond (eqb kind 3) is (distinct_inputs is))

abbrev pub over_d : List Diagram → ℕ → ℕ → List Input → Diagram
over_d gs kind k is = kind_d kind k (map (input_d gs) is)

abbrev pub over_steps_d : List Diagram → ℕ → ℕ → List Input → List Diagram
over_steps_d gs kind k is = event_steps_d is ++ kind_steps_d kind k (map (input_d gs) is)
