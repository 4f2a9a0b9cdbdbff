-- THE KIND OF A GATE by the line that defines it: 2 and, 3 or, 4 at least; a k of 2^32 - 1 or more is kept as that.
-- Assumes nothing.
use Rattle.std.specs.Prelude.{Option, Some, None, List, ℕ, ◌<◌, ◌≤◌, get_or}
use Rattle.paper.specs.Trees.{Input, Gate, least_g}
use Rattle.paper.specs.Flat.{gate_of}
use Rattle.paper.specs.Grammar.{Line}
use Rattle.paper.specs.Texts.{lines_of}
use Rattle.paper.specs.Equations.{name_in, line_in}
use Rattle.paper.specs.Meaning.{gate_by}
use Rattle.lines.specs.Reading.{Capped}
use Rattle.lines.specs.declared.Kind.{Kind}
use Rattle.lines.specs.declared.Kind.TheVariants.{Chance, Or, And, AtLeast}

-- of a line as it is read; for an event any number will do
abbrev pub kind_number : Option Kind → ℕ
kind_number None = 3
kind_number (Some (Chance v)) = 3
kind_number (Some (Or i)) = 3
kind_number (Some (And i)) = 2
kind_number (Some (AtLeast k i)) = 4

abbrev pub least_number : Option Kind → ℕ
least_number None = 0
least_number (Some (Chance v)) = 0
least_number (Some (Or i)) = 0
least_number (Some (And i)) = 0
least_number (Some (AtLeast k i)) = k

-- the same gate, but that k may be capped
pub data CappedGate : Gate → Gate → Type 0 where
  same : (x : Gate) → CappedGate x x
  least : (n k : ℕ) (is : List Input) → Capped n k → CappedGate (least_g n is) (least_g k is)

-- kind and k of the gate that a line defines
pub record KindOf (l : Line) (kind k : ℕ) : Type 0 where
  pub known : (2 ≤ kind) × (kind ≤ 4)
  pub gate : (is : List Input) → CappedGate (gate_by l is) (gate_of kind k is)

-- K and L have them for each of c names
pub record KindsOf (text : List ℕ) (c : ℕ) (K L : List ℕ) : Type 0 where
  pub each : (n : ℕ) → n < c → KindOf (line_in (name_in (lines_of text) n) (lines_of text)) (get_or K n 0) (get_or L n 0)
