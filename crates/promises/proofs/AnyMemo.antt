-- THE MEMO DOES NOT MATTER, neither its length nor what it holds: outcomes that two memories with different memos allow are the same but for the numbering
-- of nodes, and each memo keeps its own length.
-- Assumes nothing.
use mathlib.Core.Path.{◌≡◌, refl, ap, ◌∙◌, subst}
use mathlib.Core.List.{List}
use Prim.Native.Nat.{ℕ, ◌%◌}
use lib.ListN.{length, replicate, length-replicate}
use Rattle.paper.specs.Trees.{Tree}
use Rattle.memory.specs.Memory.{Memory, Lengths, AllZero, Zero}
use Rattle.memory.specs.Outcome.{Done}
use Rattle.analyser.specs.Analysed.{Analysed}
use Rattle.promises.specs.Coincide.{Coincide}
use Rattle.promises.specs.Memo.{with_memo, OtherMemo, SameButMemo}
use Rattle.memory.specs.Analysis.{Analysis}
use Rattle.promises.proofs.Coincide.{coincide, same_number, same_place}

-- ---- what does not speak of the memo

module _ {m : Memory} (M : List ℕ) where
  lengths : {n : ℕ} → length M % 4 ≡ 0 → Lengths n m → Lengths n (with_memo M m)
  lengths f l = record { node_table = l.node_table; cut_table = l.cut_table; gate_list = l.gate_list; added_list = l.added_list; fours = f; areas = l.areas }

  module _ {m' : Memory} (M' : List ℕ) (z : Zero M M') where
    all_zero : AllZero m m' → AllZero (with_memo M m) (with_memo M' m')
    all_zero k = record { nodes = k.nodes; cuts = k.cuts; gates = k.gates; added = k.added; memo = z; heads = k.heads; next = k.next; marks = k.marks; own = k.own }

    done : {t : Tree} {a : Analysis} → Done t m m' a → Done t (with_memo M m) (with_memo M' m') a
    done d = record {
      number = d.number;
      place = d.place;
      node_count = d.node_count;
      cut_count = d.cut_count;
      node_table = d.node_table;
      cut_table = d.cut_table;
      nodes_needed = d.nodes_needed;
      cuts_needed = d.cuts_needed;
      nodes_long = d.nodes_long;
      cuts_long = d.cuts_long;
      gates_long = d.gates_long;
      added_long = d.added_long;
      gate_list = d.gate_list;
      added_list = d.added_list;
      root_is = d.root_is;
      cuts_are = d.cuts_are;
      memo = z;
      heads = d.heads;
      next = d.next;
      marks = d.marks;
      own = d.own;
    }

-- ---- with another memo

-- a memo comes out as long as it was lent
memo_long : {bytes : List ℕ} {m m' : Memory} {a : Analysis} → Analysed bytes m m' a → length m'.memo ≡ length m.memo
memo_long (Analysed.bad_tree w p r k) = ap (λ (x : Memory). length x.memo) k
memo_long (Analysed.bad_length b p n r k) = ap (λ (x : Memory). length x.memo) k
memo_long {m = m} (Analysed.nodes_full b g p n f r z) = ap length z.memo ∙ length-replicate (length m.memo) 0
memo_long {m = m} (Analysed.cuts_full b p n f g r z) = ap length z.memo ∙ length-replicate (length m.memo) 0
memo_long {m = m} (Analysed.done b p n f g d) = ap length d.memo ∙ length-replicate (length m.memo) 0

module _ {m : Memory} (M : List ℕ) (f : length m.memo % 4 ≡ 0) (f' : length M % 4 ≡ 0) where
  -- what may come of m may come of m with the memo M, some memo being there in the end
  moved : {bytes : List ℕ} {m' : Memory} {a : Analysis} → Analysed bytes m m' a → (M' : List ℕ) × Analysed bytes (with_memo M m) (with_memo M' m') a
  moved (Analysed.bad_tree w p r k) = (M, Analysed.bad_tree w p r (ap (with_memo M) k))
  moved (Analysed.bad_length b p n r k) = (M, Analysed.bad_length b p (λ l. n (lengths m.memo f l)) r (ap (with_memo M) k))
  moved (Analysed.nodes_full b g p l x r z) = (replicate (length M) 0, Analysed.nodes_full b g p (lengths M f' l) x r (all_zero M (replicate (length M) 0) refl z))
  moved (Analysed.cuts_full b p l x y r z) = (replicate (length M) 0, Analysed.cuts_full b p (lengths M f' l) x y r (all_zero M (replicate (length M) 0) refl z))
  moved (Analysed.done b p l x y d) = (replicate (length M) 0, Analysed.done b p (lengths M f' l) x y (done M (replicate (length M) 0) refl d))

-- ---- what coincides

same_memo : {m m' : Memory} {a a' : Analysis} → Coincide m m' a a' → m'.memo ≡ m.memo
same_memo (Coincide.refused n e k) = ap (λ (x : Memory). x.memo) k
same_memo (Coincide.done n r) = r.memo

same_nodes : {m m' : Memory} {a a' : Analysis} → Coincide m m' a a' → a'.nodes ≡ a.nodes
same_nodes (Coincide.refused n e k) = ap (λ (x : Analysis). x.nodes) e
same_nodes (Coincide.done n r) = r.node_count

same_cut_nodes : {m m' : Memory} {a a' : Analysis} → Coincide m m' a a' → a'.cut_nodes ≡ a.cut_nodes
same_cut_nodes (Coincide.refused n e k) = ap (λ (x : Analysis). x.cut_nodes) e
same_cut_nodes (Coincide.done n r) = r.cut_count

-- THE LAW
pub any_memo : {bytes : List ℕ} {m k m₁ k₁ : Memory} {a₁ a₂ : Analysis} → OtherMemo m k → Analysed bytes m m₁ a₁ → Analysed bytes k k₁ a₂ → SameButMemo m k m₁ k₁ a₁ a₂
any_memo {bytes} {m} {k} {m₁} {k₁} {a₁} {a₂} o x y =
    let back : with_memo m.memo k ≡ m = ap (with_memo m.memo) o.rest in
    let (M, z) = moved m.memo o.fours' o.fours y in
    let c : Coincide m₁ (with_memo M k₁) a₁ a₂ = coincide x (subst (λ h. Analysed bytes h (with_memo M k₁) a₂) back z) in
    record {
      number = same_number c;
      place = same_place c;
      node_count = same_nodes c;
      cut_count = same_cut_nodes c;
      rest = subst (λ N. Coincide m₁ (with_memo N k₁) a₁ a₂) (same_memo c) c;
      memo = memo_long x;
      memo' = memo_long y;
    }
