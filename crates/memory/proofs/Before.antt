-- What does not depend on more of the memory before than its lengths.
-- Assumes nothing.
use mathlib.Core.Path.{◌≡◌, sym, ap, ◌∙◌, subst}
use mathlib.Core.List.{List}
use Prim.Native.Nat.{ℕ, ◌%◌}
use native.Mathlib.Omega.{arith}
use lib.ListN.{length, replicate}
use Rattle.paper.specs.Trees.{Tree}
use Rattle.memory.specs.Memory.{Memory, Zero, AllZero, Lengths}
use Rattle.memory.specs.Outcome.{Done}
use Rattle.memory.specs.Analysis.{Analysis}

pub record SameLengths (m k : Memory) : Type 0 where
  pub nodes : length k.nodes ≡ length m.nodes
  pub cuts : length k.cuts ≡ length m.cuts
  pub gates : length k.gates ≡ length m.gates
  pub added : length k.added ≡ length m.added
  pub memo : length k.memo ≡ length m.memo
  pub heads : length k.heads ≡ length m.heads
  pub next : length k.next ≡ length m.next
  pub marks : length k.marks ≡ length m.marks
  pub own : length k.own ≡ length m.own

module _ {m k : Memory} (s : SameLengths m k) where
  pub zero_from : (a b c : List ℕ) → length b ≡ length a → Zero b c → Zero a c
  zero_from a b c e z = z ∙ ap (λ n. replicate n 0) e

  pub all_zero_from : {m' : Memory} → AllZero k m' → AllZero m m'
  all_zero_from {m'} z = record {
    nodes = zero_from m.nodes k.nodes m'.nodes s.nodes z.nodes;
    cuts = zero_from m.cuts k.cuts m'.cuts s.cuts z.cuts;
    gates = zero_from m.gates k.gates m'.gates s.gates z.gates;
    added = zero_from m.added k.added m'.added s.added z.added;
    memo = zero_from m.memo k.memo m'.memo s.memo z.memo;
    heads = zero_from m.heads k.heads m'.heads s.heads z.heads;
    next = zero_from m.next k.next m'.next s.next z.next;
    marks = zero_from m.marks k.marks m'.marks s.marks z.marks;
    own = zero_from m.own k.own m'.own s.own z.own;
  }

  pub done_from : {t : Tree} {m' : Memory} {a : Analysis} → Done t k m' a → Done t m m' a
  done_from {t} {m'} z = record {
    number = z.number;
    place = z.place;
    node_count = z.node_count;
    cut_count = z.cut_count;
    node_table = z.node_table;
    cut_table = z.cut_table;
    nodes_needed = z.nodes_needed;
    cuts_needed = z.cuts_needed;
    nodes_long = z.nodes_long ∙ s.nodes;
    cuts_long = z.cuts_long ∙ s.cuts;
    gates_long = z.gates_long ∙ s.gates;
    added_long = z.added_long ∙ s.added;
    gate_list = z.gate_list;
    added_list = z.added_list;
    root_is = z.root_is;
    cuts_are = z.cuts_are;
    memo = zero_from m.memo k.memo m'.memo s.memo z.memo;
    heads = zero_from m.heads k.heads m'.heads s.heads z.heads;
    next = zero_from m.next k.next m'.next s.next z.next;
    marks = zero_from m.marks k.marks m'.marks s.marks z.marks;
    own = zero_from m.own k.own m'.own s.own z.own;
  }

pub lengths_from : {n : ℕ} {m k : Memory} → SameLengths m k → Lengths n m → Lengths n k
lengths_from {n} {m} {k} s l = record {
  node_table = record { threes = subst (λ x. x % 3 ≡ 0) (sym s.nodes) l.node_table.threes; short = omega (arith, s.nodes, l.node_table.short) };
  cut_table = record { threes = subst (λ x. x % 3 ≡ 0) (sym s.cuts) l.cut_table.threes; short = omega (arith, s.cuts, l.cut_table.short) };
  gate_list = omega (arith, s.gates, l.gate_list);
  added_list = omega (arith, s.added, l.added_list);
  fours = subst (λ x. x % 4 ≡ 0) (sym s.memo) l.fours;
  areas = record {
    heads = rw (s.nodes, s.cuts, s.heads) l.areas.heads;
    next = rw (s.nodes, s.cuts, s.next) l.areas.next;
    marks = rw (s.nodes, s.cuts, s.marks) l.areas.marks;
    own = rw (s.nodes, s.cuts, s.own) l.areas.own;
  };
}
