-- The paper's rule for at least k, at diagrams.
-- Assumes nothing.
use Rattle.std.specs.Prelude.{List, ℕ}
use Rattle.paper.specs.Steps.{least, least_steps}
use Rattle.paper.specs.Diagrams.{Diagram, leaf}
use Rattle.algebra.specs.Operations.{join_d, event_d}

-- at least k, and every pair that the rule reaches with each conjunction
abbrev pub least_d : ℕ → List Diagram → Diagram
least_d = least event_d leaf join_d

abbrev pub least_steps_d : ℕ → List Diagram → List Diagram
least_steps_d = least_steps event_d leaf join_d
