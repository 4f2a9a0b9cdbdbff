-- Memories that differ in the memo alone, in its length and in what it holds; and when two outcomes are the same but for the memos.
-- Assumes nothing.
use Rattle.std.specs.Prelude.{◌≡◌, List, ℕ, ◌%◌, length}
use Rattle.memory.specs.Memory.{Memory, memory}
use Rattle.memory.specs.Analysis.{Analysis}
use Rattle.promises.specs.Coincide.{Coincide}

-- m with another memo
abbrev pub with_memo : List ℕ → Memory → Memory
with_memo M m = memory m.nodes m.cuts m.gates m.added M m.heads m.next m.marks m.own

-- k is m but for the memo, and both memos have a length that the rules allow
pub record OtherMemo (m k : Memory) : Type 0 where
  pub rest : k ≡ with_memo k.memo m
  pub fours : length m.memo % 4 ≡ 0
  pub fours' : length k.memo % 4 ≡ 0

-- m and k are lent, m₁ and k₁ come out: the answers are the same but for the numbering, and so is what is lent but for the memos; each memo keeps its length
pub record SameButMemo (m k m₁ k₁ : Memory) (a a' : Analysis) : Type 0 where
  pub number : a'.number ≡ a.number
  pub place : a'.place ≡ a.place
  pub node_count : a'.nodes ≡ a.nodes
  pub cut_count : a'.cut_nodes ≡ a.cut_nodes
  pub rest : Coincide m₁ (with_memo m₁.memo k₁) a a'
  pub memo : length m₁.memo ≡ length m.memo
  pub memo' : length k₁.memo ≡ length k.memo
