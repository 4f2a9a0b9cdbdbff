-- OLD FILES: what every file that an old reader accepts has kept.
-- Assumes nothing.
use Rattle.std.specs.Prelude.{◌≡◌, true, Ok, List, ◌++◌, ℕ, ◌≤◌, ◌<◌, length, get_or, drop}
use Rattle.paper.specs.Limits.{limits, old_limits, billion}
use Rattle.paper.specs.Sets.{Set}
use Rattle.paper.specs.Trees.{Tree, events, root_fun}
use Rattle.paper.specs.Nodes.{nodes_of, nodes_added}
use Rattle.paper.specs.Diagrams.{diagram_of}
use Rattle.paper.specs.Cuts.{cut_list}
use Rattle.paper.specs.Listing.{set_bytes, old_set_bytes, old_sets_bytes}
use Rattle.paper.specs.Chance.{low, high}
use Rattle.paper.specs.Sizes.{cuts_of_size}
use Rattle.paper.specs.Answers.{cut_nodes_of}
use Rattle.records.specs.Judge.{Book, accept, outcome}
use Rattle.records.specs.Memory.{memory}
use Rattle.records.specs.Trees.{tree_of}
use Rattle.writing.specs.Writes.{write_of, wrote}
use Rattle.listing.specs.Joined.{Joined}
use Rattle.bracket.specs.Bracketed.{chance_in, Bracketed}
use Rattle.sizes.specs.Counted.{Counted}
use Rattle.memory.specs.Memory.{Memory}
use Rattle.memory.specs.Analysis.{Analysis}
use Rattle.analyser.specs.Analysed.{Analysed}

-- WHAT THE CALLS ANSWER on a done analysis of the tree t, each by definitions of t that no limit enters
pub record SameAnswers (t : Tree) (m : Memory) (a : Analysis) : Type 0 where
  -- the counts of nodes
  pub nodes : a.nodes ≡ nodes_of t
  pub cut_nodes : a.cut_nodes ≡ cut_nodes_of t
  pub added : (g : ℕ) → g < length t.gates → get_or m.added g 0 ≡ nodes_added t g
  -- the listing, in rooms of any sizes: the old bytes of the minimal cuts; and any set has its old bytes, so a room gets what it got
  pub listing : {ws bytes : List ℕ} → Joined (events t) m.cuts a.cut_nodes a.cut_root true ws bytes
      → bytes ≡ old_sets_bytes (events t) (cut_list (events t) (root_fun t.gates))
  pub one_set : (S : Set) → set_bytes (events t) S ≡ old_set_bytes (events t) S
  -- the bracket: the two numbers of the root function's diagram
  pub low_is : {A L H L' H' : List ℕ} {number place lo hi : ℕ} → Bracketed (events t) m.nodes a.nodes a.root A number place lo hi L H L' H' → number ≡ 0
      → lo ≡ low billion (chance_in A) (diagram_of (events t) 0 (root_fun t.gates))
  pub high_is : {A L H L' H' : List ℕ} {number place lo hi : ℕ} → Bracketed (events t) m.nodes a.nodes a.root A number place lo hi L H L' H' → number ≡ 0
      → hi ≡ high billion (chance_in A) (diagram_of (events t) 0 (root_fun t.gates))
  -- the cuts by size; of the sizes that an old reader did not know there is none
  pub sizes : {number place : ℕ} {C B W R C' B' W' R' : List ℕ}
      → Counted (events t) m.cuts a.cut_nodes a.cut_root number place C B W R C' B' W' R' → number ≡ 0
      → (k : ℕ) → k ≤ old_limits.events → get_or C' k 0 ≡ cuts_of_size t k
  pub no_larger : (k : ℕ) → old_limits.events < k → cuts_of_size t k ≡ 0

-- THESE BYTES, which an old reader reads as the tree of b, are read as that tree and written back as they are, and the calls answer by it as ever
pub record OldFile (bytes : List ℕ) (b : Book) : Type 0 where
  pub read : outcome limits bytes ≡ accept b
  pub written : (room : List ℕ) → length bytes ≤ length room → write_of limits (memory b) room ≡ wrote (Ok (length bytes)) (bytes ++ drop (length bytes) room)
  pub answers : {m m' : Memory} {a : Analysis} → Analysed bytes m m' a → a.number ≡ 0 → SameAnswers (tree_of b) m' a
