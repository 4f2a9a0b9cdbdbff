-- THE CUTS BY SIZE on the cut table of a done analysis: the counts of its diagram are those of the tree's minimal cuts.
-- Assumes nothing.
use mathlib.Core.Path.{◌≡◌, ap, ◌∙◌, subst}
use mathlib.Core.Logic.{◌≢◌}
use mathlib.Core.List.{List}
use Prim.Native.Nat.{ℕ, ◌<◌}
use native.Mathlib.Omega.{arith}
use lib.ListN.{length, get_or}
use Rattle.paper.specs.Trees.{Tree, events}
use Rattle.paper.specs.Sizes.{of_size, count_of, cuts_of_size, largest, sizes}
use Rattle.tables.specs.Table.{den}
use Rattle.sizes.specs.Counted.{Enough, Fits, TooMany, Counted, no_diagram, too_short, too_many, done}
use Rattle.sizes.proofs.Outcome.{counts_together}
use Rattle.records.specs.Trees.{tree_of}
use Rattle.memory.specs.Memory.{Memory}
use Rattle.memory.specs.Outcome.{Done}
use Rattle.memory.specs.Analysis.{Analysis}
use Rattle.analyser.specs.Analysed.{Analysed}
use Rattle.promises.specs.Reasons.{Accepted}
use Rattle.promises.specs.BySize.{Uncountable, BySize}
use Rattle.promises.proofs.Which.{finished_tree}

module _ {t : Tree} {m m' : Memory} {a : Analysis} (d : Done t m m' a) where
  -- THE BRIDGE: a count of the cut table's root is a count of minimal cuts
  pub count_is : (k : ℕ) → count_of (events t) k (den m'.cuts a.cut_root) ≡ cuts_of_size t k
  count_is k = ap (of_size (events t) k) d.cuts_are

  -- every size can be answered, or some can not
  pub fits_cuts : Fits (events t) (den m'.cuts a.cut_root) → Uncountable t → ⊥
  fits_cuts f u = let h = f.each u.size in let e = count_is u.size in let b = u.above in omega (arith, h, e, b)

  pub too_many_cuts : TooMany (events t) (den m'.cuts a.cut_root) → Uncountable t
  too_many_cuts x = record { size = x.size; above = subst (λ n. largest < n) (count_is x.size) x.above }

  module _ {number place : ℕ} {C B W R C' B' W' R' : List ℕ} where
    takes_cuts : Counted (events t) m'.cuts a.cut_nodes a.cut_root number place C B W R C' B' W' R' → number ≢ 12
    takes_cuts (no_diagram x r) q = x d.cut_table.lent
    takes_cuts (too_short v x r) q = let w = r.number_is in omega arith
    takes_cuts (too_many v e x r z) q = let w = r.number_is in omega arith
    takes_cuts (done v e x r z) q = let w = r.number_is in omega arith

    counts_cuts : Counted (events t) m'.cuts a.cut_nodes a.cut_root number place C B W R C' B' W' R' → number ≡ 0
        → (k : ℕ) → k < sizes → get_or C' k 0 ≡ cuts_of_size t k
    counts_cuts (no_diagram x r) q = let w = r.number_is in absurd (omega arith)
    counts_cuts (too_short v x r) q = let w = r.number_is in absurd (omega arith)
    counts_cuts (too_many v e x r z) q = let w = r.number_is in absurd (omega arith)
    counts_cuts (done v e x r z) q = λ k l. r.counts k l ∙ count_is k

    nineteen_then : Counted (events t) m'.cuts a.cut_nodes a.cut_root number place C B W R C' B' W' R' → number ≡ 19 → Uncountable t
    nineteen_then (no_diagram x r) q = let w = r.number_is in absurd (omega arith)
    nineteen_then (too_short v x r) q = let w = r.number_is in absurd (omega arith)
    nineteen_then (too_many v e x r z) q = too_many_cuts x
    nineteen_then (done v e x r z) q = let w = r.number_is in absurd (omega arith)

    module _ (enough : Enough m'.cuts C B W R) where
      nineteen_when : Counted (events t) m'.cuts a.cut_nodes a.cut_root number place C B W R C' B' W' R' → Uncountable t → number ≡ 19
      nineteen_when (no_diagram x r) u = absurd (x d.cut_table.lent)
      nineteen_when (too_short v x r) u = absurd (x enough)
      nineteen_when (too_many v e x r z) u = r.number_is
      nineteen_when (done v e x r z) u = absurd (fits_cuts x u)

      zero_then : Counted (events t) m'.cuts a.cut_nodes a.cut_root number place C B W R C' B' W' R' → number ≡ 0 → Uncountable t → ⊥
      zero_then x q u = let w = nineteen_when x u in omega arith

      zero_when : Counted (events t) m'.cuts a.cut_nodes a.cut_root number place C B W R C' B' W' R' → (Uncountable t → ⊥) → number ≡ 0
      zero_when (no_diagram x r) u = absurd (x d.cut_table.lent)
      zero_when (too_short v x r) u = absurd (x enough)
      zero_when (too_many v e x r z) u = absurd (u (too_many_cuts x))
      zero_when (done v e x r z) u = r.number_is

  pub done_by_size : BySize t m' a
  done_by_size = record {
    takes = λ x. takes_cuts x;
    counts = λ x q. counts_cuts x q;
    adds_up = λ x q. counts_together x q ∙ ap length d.cuts_are;
    nineteen = λ x e. (nineteen_then x, nineteen_when e x);
    zero = λ x e. (zero_then e x, zero_when e x);
  }

-- THE PROMISE
pub by_size : {bytes : List ℕ} {m m' : Memory} {a : Analysis} → Analysed bytes m m' a → a.number ≡ 0 → (t : Accepted bytes) × BySize (tree_of t.book) m' a
by_size x q = let (t, d) = finished_tree x q in (t, done_by_size d)
