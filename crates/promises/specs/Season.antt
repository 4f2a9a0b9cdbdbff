-- THE PROMISE UNDER SETTINGS: what a done analysis of the tree t under the settings s says, in the words of t and s.
-- Assumes nothing.
use Rattle.std.specs.Prelude.{◌≡◌, ◌↔◌, Bool, false, cond, List, [], ◌∷◌, map, ℕ, ◌+◌, ◌-◌, ◌<◌, length, get_or, take}
use Rattle.paper.specs.Limits.{billion}
use Rattle.paper.specs.Lists.{In}
use Rattle.paper.specs.Sets.{Set, none}
use Rattle.paper.specs.Functions.{depends_on}
use Rattle.paper.specs.Trees.{Tree, events, const_f, gate_funs, root_fun}
use Rattle.paper.specs.Steps.{step_funs}
use Rattle.paper.specs.Nodes.{nodes_needed}
use Rattle.paper.specs.Diagrams.{eval}
use Rattle.paper.specs.Cuts.{MinimalCut, cut_nodes_needed}
use Rattle.paper.specs.Chance.{total, Brackets}
use Rattle.paper.specs.Store.{Settings, settings_of}
use Rattle.paper.specs.Forcing.{force_f, force_tree}
use Rattle.tables.specs.Table.{den}
use Rattle.bracket.specs.Bracketed.{chance_in, Bracketed}
use Rattle.settings.specs.States.{ChancesForced}
use Rattle.memory.specs.Memory.{Memory}
use Rattle.memory.specs.Analysis.{Analysis}
use Rattle.promises.specs.Delivers.{cuts_in, Own, Delivers}

pub record Season (s : Settings) (t : Tree) (m : Memory) (a : Analysis) : Type 0 where
  -- all that is promised of a tree is promised of the tree under the settings
  pub delivers : Delivers (force_tree s t) m a
  -- the gates and the root denote their functions with the forced events fixed
  pub gates : (i : ℕ) → i < length t.gates → eval (den m.nodes (get_or m.gates i 0)) ≡ force_f s (get_or (gate_funs t.gates) i (const_f false))
  pub root : eval (den m.nodes a.root) ≡ force_f s (root_fun t.gates)
  -- nodes are needed by these functions only, and so are cut nodes
  pub nodes : a.nodes ≡ nodes_needed (events t) (map (force_f s) (step_funs t.gates))
  pub added : (g : ℕ) → g < length t.gates → get_or m.added g 0
      ≡ nodes_needed (events t) (map (force_f s) (step_funs (take (g + 1) t.gates))) - nodes_needed (events t) (map (force_f s) (step_funs (take g t.gates)))
  pub cut_nodes : a.cut_nodes ≡ cut_nodes_needed (events t) (force_f s (root_fun t.gates))
  -- the cuts are those of the root with the forced events fixed
  pub cuts : (S : Set) → In S (cuts_in m a) ↔ MinimalCut (force_f s (root_fun t.gates)) S
  -- with the chances under the settings the bracket encloses the exact chance of the tree's root, which is that of the root with the forced events
  -- fixed, each end less than L away, where L is the number of events that this function depends on; where L is 0 both ends are exact
  pub near : {A L H L' H' : List ℕ} {number place lo hi : ℕ} → Bracketed (events t) m.nodes a.nodes a.root A number place lo hi L H L' H' → number ≡ 0 → Own (force_tree s t) A
      → Brackets billion (events t - 1) (total billion (chance_in A) (events t) 0 (root_fun t.gates)) (depends_on (events t) (force_f s (root_fun t.gates))) lo hi
  pub chance : {A : List ℕ} → Own (force_tree s t) A → total billion (chance_in A) (events t) 0 (root_fun t.gates) ≡ total billion (chance_in A) (events t) 0 (force_f s (root_fun t.gates))
  -- gates may be constant: their number is then 0 or 1. So may the root: then both roots are 0 or 1, the family is none, or the empty set alone, no
  -- cut node is needed, and L is 0
  pub constant_gates : (i : ℕ) (b : Bool) → i < length t.gates → force_f s (get_or (gate_funs t.gates) i (const_f false)) ≡ const_f b → get_or m.gates i 0 ≡ cond b 1 0
  pub constant_root : (b : Bool) → force_f s (root_fun t.gates) ≡ const_f b → a.root ≡ cond b 1 0
  pub constant_cut_root : (b : Bool) → force_f s (root_fun t.gates) ≡ const_f b → a.cut_root ≡ cond b 1 0
  pub constant_cuts : (b : Bool) → force_f s (root_fun t.gates) ≡ const_f b → cuts_in m a ≡ cond b (none ∷ []) []
  pub constant_cut_nodes : (b : Bool) → force_f s (root_fun t.gates) ≡ const_f b → a.cut_nodes ≡ 0
  pub constant_depends : (b : Bool) → force_f s (root_fun t.gates) ≡ const_f b → depends_on (events t) (force_f s (root_fun t.gates)) ≡ 0

-- THE CALLS ONE AFTER ANOTHER: for as many chances as the tree has events `chances_under` answers 0, and it makes the tree's own chances those of the
-- tree under the settings; with what it leaves, `bracket` encloses the exact chance of the root with the forced events fixed, as near as above
pub record Priced (store : List ℕ) (asked : ℕ) (t : Tree) (m : Memory) (a : Analysis) : Type 0 where
  pub answers : {C C' : List ℕ} {number place : ℕ} → ChancesForced store asked C C' number place → length C ≡ events t → number ≡ 0
  pub own : {C C' : List ℕ} {number place : ℕ} → ChancesForced store asked C C' number place → number ≡ 0 → Own t C → Own (force_tree (settings_of asked store) t) C'
  pub encloses : {C C' L H L' H' : List ℕ} {k p number place lo hi : ℕ} → ChancesForced store asked C C' k p → k ≡ 0 → Own t C
      → Bracketed (events t) m.nodes a.nodes a.root C' number place lo hi L H L' H' → number ≡ 0
      → Brackets billion (events t - 1) (total billion (chance_in C') (events t) 0 (force_f (settings_of asked store) (root_fun t.gates)))
      (depends_on (events t) (force_f (settings_of asked store) (root_fun t.gates))) lo hi
