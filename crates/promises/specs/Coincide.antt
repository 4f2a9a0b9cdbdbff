-- When two outcomes of an analysis are the same: a refusal to the last number, a done analysis up to the numbering of nodes.
-- Assumes nothing.
use Rattle.std.specs.Prelude.{◌≡◌, ◌≢◌, List, ℕ, ◌+◌, ◌*◌, ◌≤◌, ◌<◌, length, get_or}
use Rattle.tables.specs.Table.{event_of, failed_of, sound_of, den}
use Rattle.memory.specs.Memory.{Memory}
use Rattle.memory.specs.Analysis.{Analysis}

-- The c nodes of T under other numbers are the c' nodes of T': leaves stay, each way undoes the other, and events and branches go along.
-- Behind the nodes the tables are equal.
pub record Renumbering (T T' : List ℕ) (c c' : ℕ) : Type 0 where
  pub to : ℕ → ℕ
  pub back : ℕ → ℕ
  pub to_in : (i : ℕ) → i < c + 2 → to i < c' + 2
  pub back_in : (j : ℕ) → j < c' + 2 → back j < c + 2
  pub there : (i : ℕ) → i < c + 2 → back (to i) ≡ i
  pub here : (j : ℕ) → j < c' + 2 → to (back j) ≡ j
  pub leaf_0 : to 0 ≡ 0
  pub leaf_1 : to 1 ≡ 1
  pub node : (i : ℕ) → 2 ≤ i → i < c + 2 → 2 ≤ to i
  pub event : (i : ℕ) → 2 ≤ i → i < c + 2 → event_of T' (to i) ≡ event_of T i
  pub failed : (i : ℕ) → 2 ≤ i → i < c + 2 → failed_of T' (to i) ≡ to (failed_of T i)
  pub sound : (i : ℕ) → 2 ≤ i → i < c + 2 → sound_of T' (to i) ≡ to (sound_of T i)
  pub denotes : (i : ℕ) → i < c + 2 → den T' (to i) ≡ den T i
  pub behind : (p : ℕ) → 3 * c ≤ p → get_or T' p 0 ≡ get_or T p 0
  pub long : length T' ≡ length T

-- two done analyses: the gate list and both roots go along with the numbers, and all else is equal
pub record Renumbered (m m' : Memory) (a a' : Analysis) : Type 0 where
  pub number : a'.number ≡ a.number
  pub place : a'.place ≡ a.place
  pub node_count : a'.nodes ≡ a.nodes
  pub cut_count : a'.cut_nodes ≡ a.cut_nodes
  pub node_table : Renumbering m.nodes m'.nodes a.nodes a'.nodes
  pub cut_table : Renumbering m.cuts m'.cuts a.cut_nodes a'.cut_nodes
  pub gates : (i : ℕ) → get_or m'.gates i 0 ≡ node_table.to (get_or m.gates i 0)
  pub gates_long : length m'.gates ≡ length m.gates
  pub added : m'.added ≡ m.added
  pub root : a'.root ≡ node_table.to a.root
  pub cut_root : a'.cut_root ≡ cut_table.to a.cut_root
  pub memo : m'.memo ≡ m.memo
  pub heads : m'.heads ≡ m.heads
  pub next : m'.next ≡ m.next
  pub marks : m'.marks ≡ m.marks
  pub own : m'.own ≡ m.own

pub data Coincide (m m' : Memory) (a a' : Analysis) : Type 0 where
  refused : a.number ≢ 0 → a' ≡ a → m' ≡ m → Coincide m m' a a'
  done : a.number ≡ 0 → Renumbered m m' a a' → Coincide m m' a a'
