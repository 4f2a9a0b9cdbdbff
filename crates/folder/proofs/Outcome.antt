-- What the call answers after the row of trees, and after all that was lent is cleared.
-- Assumes nothing.
use mathlib.Core.Path.{◌≡◌, refl, sym, ap, ◌∙◌, subst}
use mathlib.Core.List.{List}
use Prim.Native.Nat.{ℕ}
use native.Mathlib.Omega.{arith}
use lib.ListN.{length, replicate}
use Rattle.std.specs.Prelude.{Some, None}
use Rattle.paper.specs.Limits.{limits}
use Rattle.paper.specs.Answers.{Unwritten}
use Rattle.memory.specs.Memory.{Memory, AllZero}
use Rattle.memory.proofs.Before.{all_zero_from, zero_from}
use Rattle.totals.specs.Adding.{Ends}
use Rattle.totals.proofs.Unwritten.{unwritten_some, unwritten_few}
use Rattle.folder.specs.Contract.{lent, Lends, lends, Right, Cleared, AtOnce, Leaves, Gathers}
use Rattle.folder.specs.Steps.{Tried}
use Rattle.folder.specs.Gathered.{Gathered}
use Rattle.folder.proofs.Passing.{refusal_number}
use Rattle.folder.proofs.Going.{Kept}

-- cleared later is cleared from the beginning
cleared_from : {l k l' : Lends} → Kept l k → Cleared k l' → Cleared l l'
cleared_from {l} {k} {l'} h c = record {
  memory = all_zero_from h.memory c.memory;
  less = zero_from h.memory l.less k.less l'.less h.less c.less;
  work = zero_from h.memory l.work k.work l'.work h.work c.work;
  reached = zero_from h.memory l.reached k.reached l'.reached h.reached c.reached;
}

-- ---- the folder's own list

-- what was lent, that list zero
abbrev own : Lends → Lends
own k = let m = k.memory in lends (lent m.nodes m.cuts m.gates m.memo m.heads m.next m.marks m.own) k.less k.work k.reached

-- all is zero, that list too
pub own_zero : {k m : Memory} → AllZero k m → length k.added ≡ limits.gates → AllZero k (lent m.nodes m.cuts m.gates m.memo m.heads m.next m.marks m.own)
own_zero z e = record { nodes = z.nodes; cuts = z.cuts; gates = z.gates; added = ap (λ n. replicate n 0) (sym e); memo = z.memo; heads = z.heads; next = z.next; marks = z.marks; own = z.own }

-- ---- the answer

pub ends_same : {n m : ℕ} {C L C' : List ℕ} → n ≡ m → Ends n C L C' → Ends m C L C'
ends_same {n} {m} {C} {L} {C'} = subst (λ k. Ends k C L C')

module _ {bytes lengths : List ℕ} {l k : Lends} {C L : List ℕ} {a : Gathered} (f : Right bytes lengths l C) (t : Tried bytes lengths l k L a) where
  -- the first tree's own, before anything was written: nothing was changed
  pub at_once : own l ≡ l → AtOnce a.tree a.number → Gathers bytes lengths l C (own k) C a
  at_once o (z, n) = go t
    where
      go : Tried bytes lengths l k L a → Gathers bytes lengths l C (own k) C a
      go (Tried.refused i v r e u) =
          let q : AtOnce i v.number = (sym e.tree_is ∙ z, subst (λ x. Unwritten x) e.number_is n) in
          Gathers.refused i v f r e (Leaves.unchanged q (ap own (u q) ∙ o)) refl
      go (Tried.passed ts (Some u) p b e) = absurd (unwritten_some a.number n e.number_is)
      go (Tried.passed ts None p b e) = let is = e.number_is in absurd (omega (arith, is, unwritten_few a.number n (omega (arith, is))))

  -- otherwise all that was lent is zero, and the counts are written or stay
  pub ended : {l' : Lends} {C' : List ℕ} → Kept l k → Cleared k l' → (AtOnce a.tree a.number → ⊥) → Ends a.number C L C' → Gathers bytes lengths l C l' C' a
  ended {l'} {C'} h z n w = go t
    where
      c : Cleared l l'
      c = cleared_from h z

      go : Tried bytes lengths l k L a → Gathers bytes lengths l C l' C' a
      go (Tried.refused i v r e u) =
          let (low, high) = refusal_number r.refused in
          let q = e.number_is in
          Gathers.refused i v f r e (Leaves.zeroed (λ (x, y). n (e.tree_is ∙ x, subst (λ k. Unwritten k) (sym q) y)) c) (w.refused (λ x. omega (arith, x, q, low)))
      go (Tried.passed ts (Some u) p s e) =
          let v = w.done e.number_is in
          Gathers.done ts f p (s.fits refl) e c (record { long = v.long; totals = λ j m. v.at j m ∙ s.exact refl j m; behind = v.behind })
      go (Tried.passed ts None p s e) = Gathers.too_many ts f p (s.over refl) e c (w.refused (λ y. let q = e.number_is in omega (arith, y, q)))
