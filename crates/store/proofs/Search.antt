-- The search along a chain of falling node numbers.
-- Assumes nothing.
use mathlib.Core.Path.{◌≡◌, sym, ◌∙◌, subst}
use mathlib.Core.List.{List}
use Prim.Native.Nat.{ℕ, ◌+◌, ◌-◌, ◌<◌, ◌≤◌}
use native.Mathlib.Omega.{arith}
use lib.ListN.{get_or, length}
use Rattle.algebra.proofs.Base.{Three, below, beyond, equal, three}
use Rattle.store.specs.Store.{first_slot, First, chain_at, Triple, Absent, Last, Store, Stored}
use Rattle.store.proofs.Slots.{same_chain}

-- node i, or one below it in its chain, is the triple, if any stored node is
pub record Seek (T : List ℕ) (slots c e f s i : ℕ) : Type 0 where
  pub to : i < c + 2
  pub own : 2 ≤ i → chain_at T slots (i - 2) ≡ first_slot e f s slots
  pub none : (k : ℕ) → i ≤ k + 1 → k < c → Triple T k e f s → ⊥

module _ {T H X : List ℕ} {c e f s : ℕ} (t : Store T H X c) where
  pub seek_start : {h : ℕ} → First e f s (length H) h → Seek T (length H) c e f s (get_or H h 0)
  seek_start {h} q =
      let a = t.heads h q.below in record {
        to = a.to;
        own = λ p. a.own p ∙ q.is;
        none = λ k p m x. a.none k p m (same_chain x (length H) ∙ sym q.is);
      }

  module _ {i : ℕ} (p : 2 ≤ i) (q : Seek T (length H) c e f s i) where
    pub seek_less : get_or X (i - 2) 0 < i
    seek_less =
        let a = (t.links (i - 2) (omega (arith, q.to))).to in
        omega arith

    pub seek_next : (Triple T (i - 2) e f s → ⊥) → Seek T (length H) c e f s (get_or X (i - 2) 0)
    seek_next n =
        let a = t.links (i - 2) (omega (arith, q.to)) in record {
          to = let z = seek_less in omega (arith, q.to);
          own = λ r. a.own r ∙ q.own p;
          none = λ k r m x. go k r m x (three k (i - 2)) a;
        }
      where
        go : (k : ℕ) → get_or X (i - 2) 0 ≤ k + 1 → k < c → Triple T k e f s → Three k (i - 2) → Last T (length H) (i - 2) (chain_at T (length H) (i - 2)) (get_or X (i - 2) 0) → ⊥
        go k r m x (below l _) a = a.none k r l (same_chain x (length H) ∙ sym (q.own p))
        go k r m x (equal l _ _) a = n (subst (λ y. Triple T y e f s) l x)
        go k r m x (beyond l _ _) a = q.none k (omega arith) m x

pub seek_hit : {T : List ℕ} {slots c e f s i : ℕ} → 2 ≤ i → Seek T slots c e f s i → Triple T (i - 2) e f s → Stored T c e f s i
seek_hit p q x = record { low = p; to = q.to; hit = x }

pub seek_miss : {T : List ℕ} {slots c e f s i : ℕ} → i < 2 → Seek T slots c e f s i → Absent T c e f s
seek_miss p q = λ k l x. q.none k (omega arith) l x
