-- The paper's rules for joining inputs, and for a gate by its kind, at diagrams.
-- Assumes nothing.
use Rattle.std.specs.Prelude.{Bool, true, false, cond, List, ℕ, eqb}
use Rattle.paper.specs.Steps.{join_all, join_all_steps}
use Rattle.paper.specs.Diagrams.{Diagram, leaf}
use Rattle.algebra.specs.Operations.{join_d, event_d}
use Rattle.atleast.specs.Rules.{least_d, least_steps_d}

-- joined from left to right, and every partial result
abbrev pub join_all_d : Bool → List Diagram → Diagram
join_all_d = join_all event_d leaf join_d

abbrev pub join_steps_d : Bool → List Diagram → List Diagram
join_steps_d = join_all_steps event_d leaf join_d

-- a gate of some kind over its inputs' diagrams: 2 is and, 3 is or, any other at least k
abbrev pub kind_d : ℕ → ℕ → List Diagram → Diagram
kind_d kind k ds = cond (eqb kind 2) (join_all_d false ds) (cond (eqb kind 3) (join_all_d true ds) (least_d k ds))

abbrev pub kind_steps_d : ℕ → ℕ → List Diagram → List Diagram
kind_steps_d kind k ds = cond (eqb kind 2) (join_steps_d false ds) (cond (eqb kind 3) (join_steps_d true ds) (least_steps_d k ds))
