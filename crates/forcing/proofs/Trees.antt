-- A tree under settings: its gates and events, its first gates, what it needs; and with all events free it is the tree.
-- Assumes nothing.
use mathlib.Core.Path.{◌≡◌, refl, ap, ap₂, ◌∙◌}
use mathlib.Core.List.{List, [], ◌∷◌, map}
use Prim.Native.Nat.{ℕ, zero, suc, ◌+◌, ◌<◌}
use lib.ListN.{length, take}
use Rattle.paper.specs.Trees.{Input, event, gate, forced, Gate, and_g, or_g, least_g, Tree, events, root_fun, InputBelow, InputsBelow, GateBelow, TreeBelow}
use Rattle.paper.specs.Steps.{step_funs}
use Rattle.paper.specs.Nodes.{nodes_needed, nodes_to_gate, nodes_of}
use Rattle.paper.specs.Cuts.{cut_nodes_needed}
use Rattle.paper.specs.Answers.{cut_nodes_of}
use Rattle.paper.specs.Store.{State, free, failed, sound, Settings}
use Rattle.paper.specs.Forcing.{force_f, event_as, force_input, force_gate, chances_from, force_tree}
use Rattle.settings.specs.States.{all_free}
use Rattle.settings.proofs.Chances.{chances_long}
use Rattle.records.specs.Trees.{TreeLower}
use Rattle.forcing.proofs.Functions.{forced_steps, forced_root}

-- ---- its gates and events

pub gates_long : (s : Settings) (t : List Gate) → length (map (force_gate s) t) ≡ length t
gates_long s [] = refl
gates_long s (x ∷ t) = ap suc (gates_long s t)

pub events_same : (s : Settings) (t : Tree) → events (force_tree s t) ≡ events t
events_same s t = chances_long s t.chances

module _ (s : Settings) (n : ℕ) where
  event_below : (e : ℕ) (x : State) → e < n → InputBelow n (event_as e x)
  event_below e free h = h
  event_below e failed h = h
  event_below e sound h = h

  inputs_below : (is : List Input) → InputsBelow n is → InputsBelow n (map (force_input s) is)
  inputs_below [] b = tt
  inputs_below (event e ∷ is) b = (event_below e (s e) b.0, inputs_below is b.1)
  inputs_below (gate i ∷ is) b = (tt, inputs_below is b.1)
  inputs_below (forced e c ∷ is) b = (b.0, inputs_below is b.1)

  gate_below : (x : Gate) → GateBelow n x → GateBelow n (force_gate s x)
  gate_below (and_g is) b = inputs_below is b
  gate_below (or_g is) b = inputs_below is b
  gate_below (least_g k is) b = inputs_below is b

  pub forced_below : (t : List Gate) → TreeBelow n t → TreeBelow n (map (force_gate s) t)
  forced_below [] b = tt
  forced_below (x ∷ t) b = (gate_below x b.0, forced_below t b.1)

-- ---- its first gates

take_map : (s : Settings) (g : ℕ) (t : List Gate) → take g (map (force_gate s) t) ≡ map (force_gate s) (take g t)
take_map s zero t = refl
take_map s (suc g) [] = refl
take_map s (suc g) (x ∷ t) = ap (force_gate s x ∷◌) (take_map s g t)

lower_take : (m g : ℕ) (t : List Gate) → TreeLower m t → TreeLower m (take g t)
lower_take m zero t l = tt
lower_take m (suc g) [] l = tt
lower_take m (suc g) (x ∷ t) l = (l.0, lower_take (m + 1) g t l.1)

-- ---- what it needs: of the functions with the forced events fixed, and of no other

module _ (s : Settings) (t : Tree) (low : TreeLower 0 t.gates) where
  pub forced_nodes : nodes_of (force_tree s t) ≡ nodes_needed (events t) (map (force_f s) (step_funs t.gates))
  forced_nodes = ap₂ nodes_needed (events_same s t) (forced_steps s t.gates low)

  pub forced_nodes_to : (g : ℕ) → nodes_to_gate (force_tree s t) g ≡ nodes_needed (events t) (map (force_f s) (step_funs (take g t.gates)))
  forced_nodes_to g = ap₂ nodes_needed (events_same s t) (ap step_funs (take_map s g t.gates) ∙ forced_steps s (take g t.gates) (lower_take 0 g t.gates low))

  pub forced_cut_nodes : cut_nodes_of (force_tree s t) ≡ cut_nodes_needed (events t) (force_f s (root_fun t.gates))
  forced_cut_nodes = ap₂ cut_nodes_needed (events_same s t) (forced_root s t.gates low)

-- ---- all events free

free_inputs : (is : List Input) → map (force_input all_free) is ≡ is
free_inputs [] = refl
free_inputs (event e ∷ is) = ap (event e ∷◌) (free_inputs is)
free_inputs (gate i ∷ is) = ap (gate i ∷◌) (free_inputs is)
free_inputs (forced e b ∷ is) = ap (forced e b ∷◌) (free_inputs is)

free_gate : (x : Gate) → force_gate all_free x ≡ x
free_gate (and_g is) = ap and_g (free_inputs is)
free_gate (or_g is) = ap or_g (free_inputs is)
free_gate (least_g k is) = ap (least_g k) (free_inputs is)

free_gates : (t : List Gate) → map (force_gate all_free) t ≡ t
free_gates [] = refl
free_gates (x ∷ t) = ap₂ ◌∷◌ (free_gate x) (free_gates t)

free_chances : (e : ℕ) (cs : List ℕ) → chances_from all_free e cs ≡ cs
free_chances e [] = refl
free_chances e (c ∷ cs) = ap (c ∷◌) (free_chances (suc e) cs)

pub free_tree : (t : Tree) → force_tree all_free t ≡ t
free_tree t = ap₂ (λ c g. record { chances = c; gates = g }) (free_chances 0 t.chances) (free_gates t.gates)
