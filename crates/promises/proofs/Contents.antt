-- WHAT THE LENT MEMORY HOLDS AT ENTRY DOES NOT MATTER, only its lengths: what may come out of one memory may come out of any other of the same lengths, but
-- for a refusal by 1 to 9 or 21, which leaves each as it was.
-- Assumes nothing.
use mathlib.Core.Path.{◌≡◌, refl, sym, subst}
use mathlib.Core.Logic.{◌⊎◌, inl, inr}
use mathlib.Core.List.{List}
use Prim.Native.Nat.{ℕ, ◌/◌}
use Rattle.paper.specs.Trees.{Tree}
use Rattle.paper.specs.Answers.{NodesFull, FilledAt, CutsFull}
use Rattle.records.specs.Trees.{tree_of}
use Rattle.memory.specs.Memory.{Memory, capacity}
use Rattle.analyser.specs.Analysed.{Analysed}
use Rattle.memory.specs.Analysis.{Analysis}
use Rattle.memory.proofs.Before.{SameLengths, all_zero_from, done_from, lengths_from}

module _ {m k : Memory} (s : SameLengths m k) where
  pub other_way : SameLengths k m
  other_way = record {
    nodes = sym s.nodes;
    cuts = sym s.cuts;
    gates = sym s.gates;
    added = sym s.added;
    memo = sym s.memo;
    heads = sym s.heads;
    next = sym s.next;
    marks = sym s.marks;
    own = sym s.own;
  }

  pub filled_at : (t : Tree) {g : ℕ} → FilledAt t (capacity k.nodes) g → FilledAt t (capacity m.nodes) g
  filled_at t {g} = subst (λ n. FilledAt t (n / 3) g) s.nodes

  pub nodes_full_back : (t : Tree) → NodesFull t (capacity m.nodes) → NodesFull t (capacity k.nodes)
  nodes_full_back t = subst (λ n. NodesFull t (n / 3)) (sym s.nodes)

  pub cuts_full : (t : Tree) → CutsFull t (capacity k.cuts) → CutsFull t (capacity m.cuts)
  cuts_full t = subst (λ n. CutsFull t (n / 3)) s.cuts

  pub cuts_full_back : (t : Tree) → CutsFull t (capacity m.cuts) → CutsFull t (capacity k.cuts)
  cuts_full_back t = subst (λ n. CutsFull t (n / 3)) (sym s.cuts)

  pub any_contents : {bytes : List ℕ} {m' : Memory} {a : Analysis} → Analysed bytes k m' a → Analysed bytes m m' a ⊎ ((m' ≡ k) × Analysed bytes m m a)
  any_contents (Analysed.bad_tree w p r e) = inr (e, Analysed.bad_tree w p r refl)
  any_contents (Analysed.bad_length b p n r e) = inr (e, Analysed.bad_length b p (λ l. n (lengths_from s l)) r refl)
  any_contents (Analysed.nodes_full b g p l f r z) = inl (Analysed.nodes_full b g p (lengths_from other_way l) (filled_at (tree_of b) f) r (all_zero_from s z))
  any_contents (Analysed.cuts_full b p l f g r z) =
      inl (Analysed.cuts_full b p (lengths_from other_way l) (λ h. f (nodes_full_back (tree_of b) h)) (cuts_full (tree_of b) g) r (all_zero_from s z))
  any_contents (Analysed.done b p l f g d) =
      inl (Analysed.done b p (lengths_from other_way l) (λ h. f (nodes_full_back (tree_of b) h)) (λ h. g (cuts_full_back (tree_of b) h)) (done_from s d))
