-- What an analysis says: a refusal, or done, with what it leaves in all that was lent.
-- Assumes nothing.
use Rattle.std.specs.Prelude.{◌≡◌, Bool, true, false, List, ℕ, ◌+◌, ◌-◌, ◌≤◌, ◌<◌, length, get_or}
use Rattle.paper.specs.Lists.{In}
use Rattle.paper.specs.Functions.{table}
use Rattle.paper.specs.Trees.{Tree, events, const_f, gate_funs, root_fun}
use Rattle.paper.specs.Steps.{step_funs}
use Rattle.paper.specs.Nodes.{needed, nodes_of, nodes_added}
use Rattle.paper.specs.Diagrams.{eval}
use Rattle.paper.specs.Cuts.{sets_of, cut_list, cuts_needed}
use Rattle.paper.specs.Answers.{Verdict, cut_nodes_of}
use Rattle.algebra.specs.Families.{holds}
use Rattle.tables.specs.Table.{den}
use Rattle.tables.specs.Stored.{Unique, ZeroBehind}
use Rattle.tables.specs.Lent.{Lent}
use Rattle.memory.specs.Memory.{Memory, Zero}
use Rattle.memory.specs.Analysis.{Analysis}

-- a number and its place; counts and roots are 0
pub record Refused (v : Verdict) (a : Analysis) : Type 0 where
  pub number : a.number ≡ v.number
  pub place : a.place ≡ v.place
  pub no_nodes : a.nodes ≡ 0
  pub no_cut_nodes : a.cut_nodes ≡ 0
  pub no_root : a.root ≡ 0
  pub no_cut_root : a.cut_root ≡ 0

-- a table of c nodes and a root, that passes the check of a lent diagram; no two nodes are equal, and behind them all is zero
pub record Table (cut : Bool) (n : ℕ) (T : List ℕ) (c root : ℕ) : Type 0 where
  pub lent : Lent cut n T c root
  pub unique : Unique T c
  pub behind : ZeroBehind T c

-- what number i says of n events: the function that it denotes; in a cut table the family, true at its sets
abbrev pub function_of : ℕ → List ℕ → ℕ → List Bool
function_of n T i = table n (eval (den T i))

abbrev pub family_of : ℕ → List ℕ → ℕ → List Bool
family_of n C i = table n (holds n 0 (den C i))

-- the stored nodes are those that are needed: what each of c nodes says is needed, and each that is needed has a node
pub record Holds (says : ℕ → List Bool) (c : ℕ) (needs : List (List Bool)) : Type 0 where
  pub only : (i : ℕ) → 2 ≤ i → i < c + 2 → In (says i) needs
  pub all : (X : List Bool) → In X needs → (i : ℕ) × (2 ≤ i) × (i < c + 2) × (says i ≡ X)

-- the gate list: each gate's node denotes the gate's function, and behind them all is zero
pub record GateList (t : Tree) (T G : List ℕ) (c : ℕ) : Type 0 where
  pub stored : (i : ℕ) → i < length t.gates → get_or G i 0 < c + 2
  pub shows : (i : ℕ) → i < length t.gates → eval (den T (get_or G i 0)) ≡ get_or (gate_funs t.gates) i (const_f false)
  pub behind : (i : ℕ) → length t.gates ≤ i → get_or G i 0 ≡ 0

-- the list of what each gate adds, and behind it all is zero
pub record AddedList (t : Tree) (A : List ℕ) : Type 0 where
  pub each : (g : ℕ) → g < length t.gates → get_or A g 0 ≡ nodes_added t g
  pub behind : (g : ℕ) → length t.gates ≤ g → get_or A g 0 ≡ 0

-- done: both counts, both roots, what each table holds; memo and work areas are zero
pub record Done (t : Tree) (m m' : Memory) (a : Analysis) : Type 0 where
  pub number : a.number ≡ 0
  pub place : a.place ≡ 0
  pub node_count : a.nodes ≡ nodes_of t
  pub cut_count : a.cut_nodes ≡ cut_nodes_of t
  pub node_table : Table false (events t) m'.nodes a.nodes a.root
  pub cut_table : Table true (events t) m'.cuts a.cut_nodes a.cut_root
  pub nodes_needed : Holds (function_of (events t) m'.nodes) a.nodes (needed (events t) (step_funs t.gates))
  pub cuts_needed : Holds (family_of (events t) m'.cuts) a.cut_nodes (cuts_needed (events t) (root_fun t.gates))
  pub nodes_long : length m'.nodes ≡ length m.nodes
  pub cuts_long : length m'.cuts ≡ length m.cuts
  pub gates_long : length m'.gates ≡ length m.gates
  pub added_long : length m'.added ≡ length m.added
  pub gate_list : GateList t m'.nodes m'.gates a.nodes
  pub added_list : AddedList t m'.added
  pub root_is : a.root ≡ get_or m'.gates (length t.gates - 1) 0
  pub cuts_are : sets_of (den m'.cuts a.cut_root) ≡ cut_list (events t) (root_fun t.gates)
  pub memo : Zero m.memo m'.memo
  pub heads : Zero m.heads m'.heads
  pub next : Zero m.next m'.next
  pub marks : Zero m.marks m'.marks
  pub own : Zero m.own m'.own

abbrev pub at : ℕ → ℕ → Verdict
at number place = record { number = number; place = place }
