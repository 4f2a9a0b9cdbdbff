-- THE PROMISE, in one place: what a done analysis of the tree t says, and what `list` and `bracket` answer on its tables.
-- Assumes nothing.
use Rattle.std.specs.Prelude.{◌≡◌, ◌≢◌, ◌↔◌, Bool, true, false, List, ℕ, ◌+◌, ◌-◌, ◌≤◌, ◌<◌, length, get_or}
use Rattle.paper.specs.Limits.{billion}
use Rattle.paper.specs.Lists.{In, Once, sum}
use Rattle.paper.specs.Sets.{Set, Part, Within}
use Rattle.paper.specs.Functions.{Fun, depends_on}
use Rattle.paper.specs.Trees.{Tree, events, const_f, gate_funs, root_fun}
use Rattle.paper.specs.Steps.{step_funs}
use Rattle.paper.specs.Nodes.{needed, nodes_of, nodes_added}
use Rattle.paper.specs.Diagrams.{eval}
use Rattle.paper.specs.Cuts.{MinimalCut, sets_of, cuts_needed}
use Rattle.paper.specs.Order.{Sorted}
use Rattle.paper.specs.Listing.{sets_bytes, longest_cut}
use Rattle.paper.specs.Chance.{total, Brackets}
use Rattle.paper.specs.Answers.{cut_nodes_of}
use Rattle.tables.specs.Table.{den}
use Rattle.listing.specs.Answers.{GoodStart, Answered}
use Rattle.listing.specs.Joined.{Joined}
use Rattle.bracket.specs.Bracketed.{chance_in, Bracketed}
use Rattle.memory.specs.Memory.{Memory, capacity}
use Rattle.memory.specs.Outcome.{function_of, family_of, Holds}
use Rattle.memory.specs.Analysis.{Analysis}

-- the function of gate i
abbrev pub gate_of : Tree → ℕ → Fun
gate_of t i = get_or (gate_funs t.gates) i (const_f false)

-- the sets that the root of the cut table denotes
abbrev pub cuts_in : Memory → Analysis → List Set
cuts_in m a = sets_of (den m.cuts a.cut_root)

-- 1. EXACT: as many nodes as needed, and of each gate as many as it adds; every needed function and family has a node, there is no other node, and no two numbers say the same
pub record Exact (t : Tree) (m : Memory) (a : Analysis) : Type 0 where
  pub nodes : a.nodes ≡ nodes_of t
  pub cut_nodes : a.cut_nodes ≡ cut_nodes_of t
  pub added : (g : ℕ) → g < length t.gates → get_or m.added g 0 ≡ nodes_added t g
  pub adds_up : sum m.added ≡ a.nodes
  pub functions : Holds (function_of (events t) m.nodes) a.nodes (needed (events t) (step_funs t.gates))
  pub functions_apart : (i j : ℕ) → i < a.nodes + 2 → j < a.nodes + 2 → function_of (events t) m.nodes i ≡ function_of (events t) m.nodes j → i ≡ j
  pub families : Holds (family_of (events t) m.cuts) a.cut_nodes (cuts_needed (events t) (root_fun t.gates))
  pub families_apart : (i j : ℕ) → i < a.cut_nodes + 2 → j < a.cut_nodes + 2 → family_of (events t) m.cuts i ≡ family_of (events t) m.cuts j → i ≡ j

-- 2. FAITHFUL: two gates have one number exactly when they agree on every set. The cuts are the sets whose failing alone fails the root while no
-- smaller part does, each once and in order; a set fails the root exactly if it contains one.
pub record Faithful (t : Tree) (m : Memory) (a : Analysis) : Type 0 where
  pub gates : (i j : ℕ) → i < length t.gates → j < length t.gates
      → (get_or m.gates i 0 ≡ get_or m.gates j 0) ↔ ((v : Set) → gate_of t i v ≡ gate_of t j v)
  pub root : eval (den m.nodes a.root) ≡ root_fun t.gates
  pub cuts : (S : Set) → In S (cuts_in m a) ↔ MinimalCut (root_fun t.gates) S
  pub sorted : Sorted (cuts_in m a)
  pub once : Once (cuts_in m a)
  pub decide : (S : Set) → (root_fun t.gates S ≡ true) ↔ ((T : Set) × In T (cuts_in m a) × Part T S)

-- `list` takes the cut table; in rooms with enough bytes for any set it answers 0, and each last set is a start for the next call. The calls, in
-- rooms of any sizes, write the bytes of the cuts, and these are the bytes of no other sets.
pub record Listed (t : Tree) (m : Memory) (a : Analysis) : Type 0 where
  pub takes : {begin : Bool} {ws room room' : List ℕ} {number place count used : ℕ} {last : List ℕ} {finished : Bool}
      → Answered (events t) m.cuts a.cut_nodes a.cut_root begin ws room room' number place count used last finished → number ≢ 12
  pub answers : {begin : Bool} {ws room room' : List ℕ} {number place count used : ℕ} {last : List ℕ} {finished : Bool}
      → Answered (events t) m.cuts a.cut_nodes a.cut_root begin ws room room' number place count used last finished
      → GoodStart (events t) begin ws → longest_cut (events t) ≤ length room → number ≡ 0
  pub goes_on : {begin : Bool} {ws room room' : List ℕ} {place count used : ℕ} {last : List ℕ} {finished : Bool}
      → Answered (events t) m.cuts a.cut_nodes a.cut_root begin ws room room' 0 place count used last finished
      → GoodStart (events t) false last × (finished ≡ false → 0 < count)
  pub whole : {ws bytes : List ℕ} → Joined (events t) m.cuts a.cut_nodes a.cut_root true ws bytes → bytes ≡ sets_bytes (events t) (cuts_in m a)
  pub no_other : {ws bytes : List ℕ} → Joined (events t) m.cuts a.cut_nodes a.cut_root true ws bytes
      → (l : List Set) → ((S : Set) → In S l → Within (events t) S) → bytes ≡ sets_bytes (events t) l → l ≡ cuts_in m a

-- the first numbers of A are the chances of the tree's events
pub record Own (t : Tree) (A : List ℕ) : Type 0 where
  pub enough : events t ≤ length A
  pub each : (e : ℕ) → e < events t → chance_in A e ≡ chance_in t.chances e

-- 3. NEAR: `bracket` takes the table; what it answers with 0 encloses the exact chance of the root, each end less than L away, where L is the
-- number of events that the root depends on; and with the tree's own chances and areas that are long enough it answers 0
pub record Near (t : Tree) (m : Memory) (a : Analysis) : Type 0 where
  pub takes : {A L H L' H' : List ℕ} {number place lo hi : ℕ} → Bracketed (events t) m.nodes a.nodes a.root A number place lo hi L H L' H' → number ≢ 12
  pub encloses : {A L H L' H' : List ℕ} {number place lo hi : ℕ} → Bracketed (events t) m.nodes a.nodes a.root A number place lo hi L H L' H' → number ≡ 0
      → Brackets billion (events t - 1) (total billion (chance_in A) (events t) 0 (root_fun t.gates)) (depends_on (events t) (root_fun t.gates)) lo hi
  pub answers : {A L H L' H' : List ℕ} {number place lo hi : ℕ} → Bracketed (events t) m.nodes a.nodes a.root A number place lo hi L H L' H'
      → Own t A → capacity m.nodes ≤ length L → capacity m.nodes ≤ length H → number ≡ 0

pub record Delivers (t : Tree) (m : Memory) (a : Analysis) : Type 0 where
  pub exact : Exact t m a
  pub faithful : Faithful t m a
  pub listed : Listed t m a
  pub near : Near t m a
