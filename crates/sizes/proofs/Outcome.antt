-- What an outcome that the contract allows tells: there is one; and 19 is answered exactly where a true count is too large.
-- Assumes nothing.
use mathlib.Core.Path.{◌≡◌, sym, ◌∙◌}
use mathlib.Core.Logic.{◌⊎◌, inl, inr}
use mathlib.Core.List.{List}
use mathlib.Core.Bool.{true}
use Prim.Native.Nat.{ℕ, ◌≤◌, ◌<◌}
use native.Mathlib.Omega.{arith}
use lib.ListN.{length, get_or}
use lib.Seq.{ext_get_or}
use Rattle.paper.specs.Diagrams.{Diagram}
use Rattle.paper.specs.Cuts.{sets_of}
use Rattle.tables.specs.Table.{den}
use Rattle.tables.specs.Lent.{Lent}
use Rattle.paper.specs.Sizes.{count_of, sizes, together}
use Rattle.store.proofs.Denotes.{below_or_not}
use Rattle.sizes.specs.Counted.{Enough, Fits, TooMany, Refused, Cleared, Stopped, Done, Counted, no_diagram, too_short, too_many, done}
use Rattle.sizes.proofs.Sums.{together_sets, together_same}

-- ---- 19 EXACTLY

both : {n : ℕ} {d : Diagram} → Fits n d → TooMany n d → ⊥
both f t = let a = f.each t.size in let b = t.above in omega (arith, a, b)

module _ {n : ℕ} {T : List ℕ} {c root number place : ℕ} {C B W R C' B' W' R' : List ℕ} where
  pub nineteen : Counted n T c root number place C B W R C' B' W' R' → number ≡ 19 → TooMany n (den T root) × (C' ≡ C)
  nineteen (no_diagram x r) q = let w = r.number_is in absurd (omega arith)
  nineteen (too_short v x r) q = let w = r.number_is in absurd (omega arith)
  nineteen (too_many v e t r z) q = (t, r.counts)
  nineteen (done v e t r z) q = let w = r.number_is in absurd (omega arith)

  pub only_nineteen : Counted n T c root number place C B W R C' B' W' R' → Lent true n T c root → Enough T C B W R → TooMany n (den T root) → number ≡ 19
  only_nineteen (no_diagram x r) v e t = absurd (x v)
  only_nineteen (too_short _ x r) v e t = absurd (x e)
  only_nineteen (too_many _ _ _ r z) v e t = r.number_is
  only_nineteen (done _ _ f r z) v e t = absurd (both f t)

  -- done: the counts together are the number of sets
  pub counts_together : Counted n T c root number place C B W R C' B' W' R' → number ≡ 0 → together (λ k. get_or C' k 0) ≡ length (sets_of (den T root))
  counts_together (no_diagram x r) q = let w = r.number_is in absurd (omega arith)
  counts_together (too_short v x r) q = let w = r.number_is in absurd (omega arith)
  counts_together (too_many v e t r z) q = let w = r.number_is in absurd (omega arith)
  counts_together (done v e t r z) q =
      let few = v.few_events in
      together_same (λ k. get_or C' k 0) (λ k. count_of n k (den T root)) r.counts ∙ together_sets n (sets_of (den T root)) (omega arith)

-- ---- TWO OUTCOMES COINCIDE

pub record Same (number place number' place' : ℕ) (C B W R C' B' W' R' : List ℕ) : Type 0 where
  pub number_same : number ≡ number'
  pub place_same : place ≡ place'
  pub counts_same : C ≡ C'
  pub less_same : B ≡ B'
  pub work_same : W ≡ W'
  pub reached_same : R ≡ R'

module _ {number place number' place' : ℕ} {C B W R C₁ B₁ W₁ R₁ C₂ B₂ W₂ R₂ : List ℕ} where
  same_refused : {why : ℕ} → Refused why number place C B W R C₁ B₁ W₁ R₁ → Refused why number' place' C B W R C₂ B₂ W₂ R₂
      → Same number place number' place' C₁ B₁ W₁ R₁ C₂ B₂ W₂ R₂
  same_refused r s = record {
    number_same = r.number_is ∙ sym s.number_is;
    place_same = r.no_place ∙ sym s.no_place;
    counts_same = r.counts ∙ sym s.counts;
    less_same = r.less ∙ sym s.less;
    work_same = r.work ∙ sym s.work;
    reached_same = r.reached ∙ sym s.reached;
  }

  same_stopped : Stopped number place C C₁ → Stopped number' place' C C₂ → Cleared B W R B₁ W₁ R₁ → Cleared B W R B₂ W₂ R₂
      → Same number place number' place' C₁ B₁ W₁ R₁ C₂ B₂ W₂ R₂
  same_stopped r s y z = record {
    number_same = r.number_is ∙ sym s.number_is;
    place_same = r.no_place ∙ sym s.no_place;
    counts_same = r.counts ∙ sym s.counts;
    less_same = y.less ∙ sym z.less;
    work_same = y.work ∙ sym z.work;
    reached_same = y.reached ∙ sym z.reached;
  }

  same_done : {n : ℕ} {d : Diagram} → Done n d number place C C₁ → Done n d number' place' C C₂ → Cleared B W R B₁ W₁ R₁ → Cleared B W R B₂ W₂ R₂
      → Same number place number' place' C₁ B₁ W₁ R₁ C₂ B₂ W₂ R₂
  same_done r s y z = record {
    number_same = r.number_is ∙ sym s.number_is;
    place_same = r.no_place ∙ sym s.no_place;
    counts_same = ext_get_or 0 C₁ C₂ (r.long ∙ sym s.long) (λ i l. at i (below_or_not i sizes));
    less_same = y.less ∙ sym z.less;
    work_same = y.work ∙ sym z.work;
    reached_same = y.reached ∙ sym z.reached;
  }
    where
      at : (i : ℕ) → (i < sizes) ⊎ (sizes ≤ i) → get_or C₁ i 0 ≡ get_or C₂ i 0
      at i (inl l) = r.counts i l ∙ sym (s.counts i l)
      at i (inr l) = r.behind i l ∙ sym (s.behind i l)

  pub one_outcome : {n : ℕ} {T : List ℕ} {c root : ℕ} → Counted n T c root number place C B W R C₁ B₁ W₁ R₁
      → Counted n T c root number' place' C B W R C₂ B₂ W₂ R₂ → Same number place number' place' C₁ B₁ W₁ R₁ C₂ B₂ W₂ R₂
  one_outcome (no_diagram x r) (no_diagram y s) = same_refused r s
  one_outcome (no_diagram x r) (too_short v y s) = absurd (x v)
  one_outcome (no_diagram x r) (too_many v e t s z) = absurd (x v)
  one_outcome (no_diagram x r) (done v e f s z) = absurd (x v)
  one_outcome (too_short v x r) (no_diagram y s) = absurd (y v)
  one_outcome (too_short v x r) (too_short w y s) = same_refused r s
  one_outcome (too_short v x r) (too_many w e t s z) = absurd (x e)
  one_outcome (too_short v x r) (done w e f s z) = absurd (x e)
  one_outcome (too_many v e t r o) (no_diagram y s) = absurd (y v)
  one_outcome (too_many v e t r o) (too_short w y s) = absurd (y e)
  one_outcome (too_many v e t r o) (too_many w g u s z) = same_stopped r s o z
  one_outcome (too_many v e t r o) (done w g f s z) = absurd (both f t)
  one_outcome (done v e f r o) (no_diagram y s) = absurd (y v)
  one_outcome (done v e f r o) (too_short w y s) = absurd (y e)
  one_outcome (done v e f r o) (too_many w g u s z) = absurd (both f u)
  one_outcome (done v e f r o) (done w g h s z) = same_done r s o z
