-- The inputs of a gate, and what making a row of their nodes answers.
-- Assumes nothing.
use Rattle.std.specs.Prelude.{◌≡◌, List, map, ℕ, ◌+◌, ◌≤◌, ◌<◌, length, get_or, Result, Ok, Err}
use Rattle.paper.specs.Limits.{limits}
use Rattle.paper.specs.Trees.{Input}
use Rattle.paper.specs.Flat.{gates_from, failed_from}
use Rattle.paper.specs.Diagrams.{Diagram}
use Rattle.store.specs.Building.{PartOf, Found, Stops}
use Rattle.store.specs.declared.Built.{Built}
use Rattle.store.specs.declared.Full.{Full}
use Rattle.atleast.specs.Making.{Row, Made}
use Rattle.gates.specs.Rules.{input_d, event_steps_d}

-- the inputs of one gate, after so many gates; a forced event stands for itself
pub record Own (gates own : List ℕ) : Type 0 where
  pub some : 1 ≤ length own
  pub few : length own ≤ limits.inputs
  pub earlier : (j : ℕ) → j < length own → get_or own j 0 < failed_from → get_or own j 0 < gates_from + length gates

-- ---- their nodes; gs are the diagrams of the gates before

pub record Named (is : List Input) (D : Diagram) (T : List ℕ) (c : ℕ) (T' H' X' : List ℕ) (c' r : ℕ) : Type 0 where
  pub made : Made (event_steps_d is) T c T' H' X' c'
  pub found : Found T' c' D r

abbrev pub Names : (is : List Input) (D : Diagram) (T : List ℕ) (c : ℕ) (T' H' X' : List ℕ) → Result Built Full → Type 0
Names is D T c T' H' X' (Ok b) = Named is D T c T' H' X' b.count b.node
Names is D T c T' H' X' (Err x) = Stops (PartOf (event_steps_d is)) T c T' H' X' x.count

pub record Lined (gs : List Diagram) (is : List Input) (T : List ℕ) (c : ℕ) (T' H' X' R : List ℕ) (c' : ℕ) : Type 0 where
  pub made : Made (event_steps_d is) T c T' H' X' c'
  pub long : length R ≡ limits.inputs
  pub row : Row T' c' (map (input_d gs) is) R

abbrev pub Lines : (gs : List Diagram) (is : List Input) (T : List ℕ) (c : ℕ) (T' H' X' R : List ℕ) → Result ℕ Full → Type 0
Lines gs is T c T' H' X' R (Ok c') = Lined gs is T c T' H' X' R c'
Lines gs is T c T' H' X' R (Err x) = Stops (PartOf (event_steps_d is)) T c T' H' X' x.count
