-- What a caller lends to an analysis, and the lengths that it must have: otherwise 9.
-- Assumes nothing.
use Rattle.std.specs.Prelude.{◌≡◌, List, ℕ, ◌+◌, ◌/◌, ◌%◌, ◌≤◌, max, length, replicate}
use Rattle.paper.specs.Limits.{most_numbers}

-- the node table, the cut table, the gate list, the list of what each gate adds, the memo, and the four work areas
pub record Memory : Type 0 where
  pub nodes : List ℕ
  pub cuts : List ℕ
  pub gates : List ℕ
  pub added : List ℕ
  pub memo : List ℕ
  pub heads : List ℕ
  pub next : List ℕ
  pub marks : List ℕ
  pub own : List ℕ

abbrev pub memory : List ℕ → List ℕ → List ℕ → List ℕ → List ℕ → List ℕ → List ℕ → List ℕ → List ℕ → Memory
memory nodes cuts gates added memo heads next marks own =
    record { nodes = nodes; cuts = cuts; gates = gates; added = added; memo = memo; heads = heads; next = next; marks = marks; own = own }

-- three numbers are a node
abbrev pub capacity : List ℕ → ℕ
capacity T = length T / 3

-- THE SMALLEST LENGTH of each work area, by the capacities of the two tables: a number for each node and each leaf
abbrev pub area_length : ℕ → ℕ → ℕ
area_length nodes cuts = max nodes cuts + 2

-- a table's length is a multiple of 3 and within the limit
pub record TableLength (T : List ℕ) : Type 0 where
  pub threes : length T % 3 ≡ 0
  pub short : length T ≤ most_numbers

-- each work area has its smallest length
pub record Areas (T C H X K O : List ℕ) : Type 0 where
  pub heads : area_length (capacity T) (capacity C) ≤ length H
  pub next : area_length (capacity T) (capacity C) ≤ length X
  pub marks : area_length (capacity T) (capacity C) ≤ length K
  pub own : area_length (capacity T) (capacity C) ≤ length O

-- not 9, for a tree of so many gates
pub record Lengths (gateCount : ℕ) (m : Memory) : Type 0 where
  pub node_table : TableLength m.nodes
  pub cut_table : TableLength m.cuts
  pub gate_list : gateCount ≤ length m.gates
  pub added_list : gateCount ≤ length m.added
  pub fours : length m.memo % 4 ≡ 0
  pub areas : Areas m.nodes m.cuts m.heads m.next m.marks m.own

-- zero to the last number
abbrev pub Zero : List ℕ → List ℕ → Type 0
Zero before after = after ≡ replicate (length before) 0

-- all that was lent is zero
pub record AllZero (m m' : Memory) : Type 0 where
  pub nodes : Zero m.nodes m'.nodes
  pub cuts : Zero m.cuts m'.cuts
  pub gates : Zero m.gates m'.gates
  pub added : Zero m.added m'.added
  pub memo : Zero m.memo m'.memo
  pub heads : Zero m.heads m'.heads
  pub next : Zero m.next m'.next
  pub marks : Zero m.marks m'.marks
  pub own : Zero m.own m'.own

-- the memo and the work areas, before and after
pub record Settled (M H X K O M' H' X' K' O' : List ℕ) : Type 0 where
  pub memo : Zero M M'
  pub heads : Zero H H'
  pub next : Zero X X'
  pub marks : Zero K K'
  pub own : Zero O O'
