-- The rules of a tree taken apart, for the laws: a lawful tree keeps them, and what keeps them is lawful.
-- Assumes nothing.
use mathlib.Core.List.{List}
use Prim.Native.Nat.{ℕ, ◌+◌, ◌≤◌, ◌<◌}
use lib.ListN.{length}
use Rattle.paper.specs.Limits.{Limits}
use Rattle.paper.specs.Lists.{In}
use Rattle.paper.specs.Trees.{Input, event, gate, Gate, Tree, events, TreeBelow}
use Rattle.paper.specs.Importing.{inputs_to}
use Rattle.records.specs.Trees.{TreeLower}
use Rattle.records.specs.Flattened.{Used, LawfulTree}
use Rattle.algebra.proofs.Lists.{in_flat, flat_in}
use Rattle.meaning.specs.Within.{all_inputs, Within}
use Rattle.meaning.proofs.Limits.{unbroken_within, within_unbroken}

-- some event and some gate; events below their number, gates below their own; every item but the root, the last gate, an input
pub record Whole (t : Tree) : Type 0 where
  pub some_event : 1 ≤ events t
  pub some_gate : 1 ≤ length t.gates
  pub below : TreeBelow (events t) t.gates
  pub lower : TreeLower 0 t.gates
  pub events_used : (e : ℕ) → e < events t → In (event e) (all_inputs t.gates)
  pub gates_used : (g : ℕ) → g + 1 < length t.gates → In (gate g) (all_inputs t.gates)

-- the rules of a tree, taken apart
pub record Rules (L : Limits) (t : Tree) : Type 0 where
  pub within : Within L t
  pub whole : Whole t

used_in : (i : Input) (xs : List Gate) → Used i xs → In i (all_inputs xs)
used_in i xs u = in_flat inputs_to i u.by xs u.one u.is

in_used : (i : Input) (xs : List Gate) → In i (all_inputs xs) → Used i xs
in_used i xs h = let (x, k, l) = flat_in inputs_to i xs h in record { by = x; one = k; is = l }

pub rules_of : {L : Limits} {t : Tree} → LawfulTree L t → Rules L t
rules_of {L} {t} w = record {
  within = unbroken_within L t w.within;
  whole = record {
    some_event = w.some_event;
    some_gate = w.some_gate;
    below = w.below;
    lower = w.lower;
    events_used = λ e h. used_in (event e) t.gates (w.events_used e h);
    gates_used = λ g h. used_in (gate g) t.gates (w.gates_used g h);
  };
}

pub lawful_of : {L : Limits} {t : Tree} → Rules L t → LawfulTree L t
lawful_of {L} {t} w = record {
  some_event = w.whole.some_event;
  some_gate = w.whole.some_gate;
  within = within_unbroken L t w.within;
  below = w.whole.below;
  lower = w.whole.lower;
  events_used = λ e h. in_used (event e) t.gates (w.whole.events_used e h);
  gates_used = λ g h. in_used (gate g) t.gates (w.whole.gates_used g h);
}
