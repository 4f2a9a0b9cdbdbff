-- A TREE OF THE PAPER LAID OUT as memory holds it; and the rules of a tree on the tree itself.
-- Assumes nothing.
use Rattle.std.specs.Prelude.{◌≡◌, true, false, List, [], map, ℕ, ◌+◌, ◌≤◌, ◌<◌, length}
use Rattle.paper.specs.Limits.{Limits}
use Rattle.paper.specs.Lists.{In, flat}
use Rattle.paper.specs.Trees.{Input, event, gate, forced, Gate, and_g, or_g, least_g, Tree, events, TreeBelow}
use Rattle.paper.specs.Flat.{gates_from, failed_from, sound_from}
use Rattle.paper.specs.Importing.{inputs_to, broken}
use Rattle.records.specs.Judge.{Book}
use Rattle.records.specs.Trees.{TreeLower}
use Rattle.records.specs.declared.Event.{Event}

abbrev pub kind_of : Gate → ℕ
kind_of (and_g is) = 2
kind_of (or_g is) = 3
kind_of (least_g k is) = 4

abbrev pub least_of : Gate → ℕ
least_of (and_g is) = 0
least_of (or_g is) = 0
least_of (least_g k is) = k

abbrev pub size_of : Gate → ℕ
size_of x = length (inputs_to x)

abbrev pub code_of : Input → ℕ
code_of (event e) = e
code_of (gate g) = gates_from + g
code_of (forced e true) = failed_from + e
code_of (forced e false) = sound_from + e

abbrev pub codes_of : Gate → List ℕ
codes_of x = map code_of (inputs_to x)

abbrev pub event_of : ℕ → Event
event_of c = record { chance = c; site = 0 }

-- the book that such a tree fills, without sites; the places of its records are left out
unfoldable pub book_of : Tree → Book
book_of t = record {
  at = 0;
  left = 0;
  events = map event_of t.chances;
  sited = false;
  kinds = map kind_of t.gates;
  leasts = map least_of t.gates;
  sizes = map size_of t.gates;
  places = [];
  inputs = flat codes_of t.gates;
}

-- an input of some gate
pub record Used (i : Input) (gates : List Gate) : Type 0 where
  pub by : Gate
  pub one : In by gates
  pub is : In i (inputs_to by)

-- A LAWFUL TREE: within the limits, each input there before, and everything but the last gate used
pub record LawfulTree (L : Limits) (t : Tree) : Type 0 where
  pub some_event : 1 ≤ events t
  pub some_gate : 1 ≤ length t.gates
  pub within : broken L t ≡ 0
  pub below : TreeBelow (events t) t.gates
  pub lower : TreeLower 0 t.gates
  pub events_used : (e : ℕ) → e < events t → Used (event e) t.gates
  pub gates_used : (g : ℕ) → g + 1 < length t.gates → Used (gate g) t.gates
