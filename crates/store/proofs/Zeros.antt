-- Cleared memory: a store of no nodes, and a memo that says nothing.
-- Assumes nothing.
use mathlib.Core.Path.{◌≡◌, sym, subst}
use mathlib.Core.Logic.{◌⊎◌, inl, inr}
use mathlib.Core.List.{List}
use Prim.Native.Nat.{ℕ, ◌*◌, ◌<◌, ◌≤◌}
use native.Mathlib.Omega.{arith}
use lib.ListN.{length, get_or, replicate, length-replicate, get_or-replicate, get_or-eq_default}
use Rattle.paper.specs.Limits.{most_numbers}
use Rattle.store.specs.Store.{Store}
use Rattle.store.specs.Memo.{Memo, Places}
use Rattle.store.proofs.Memory.{places_kept}
use Rattle.store.proofs.Denotes.{below_or_not}

-- every number of a cleared area is 0, and so is what lies behind it
pub zero_at : (n p : ℕ) → get_or {A = ℕ} (replicate n 0) p 0 ≡ 0
zero_at n p = go (below_or_not p n)
  where
    go : (p < n) ⊎ (n ≤ p) → get_or {A = ℕ} (replicate n 0) p 0 ≡ 0
    go (inl l) = get_or-replicate n p 0 0 l
    go (inr l) = get_or-eq_default (replicate n 0) 0 (subst (λ m. m ≤ p) (sym (length-replicate n 0)) l)

-- the store of no nodes; the links may hold anything
pub store_zero : (T H X : List ℕ) → length T ≤ most_numbers → length T ≤ 3 * length X → 1 ≤ length H → ((p : ℕ) → get_or T p 0 ≡ 0) → ((h : ℕ) → get_or H h 0 ≡ 0) → Store T H X 0
store_zero T H X a b d z w = record {
  room = omega arith;
  small = a;
  linked = b;
  chains = d;
  lower = record { failed = λ k l. absurd (omega arith); sound = λ k l. absurd (omega arith) };
  unique = record { same = λ j k l. absurd (omega arith) };
  behind = record { zero = λ p _. z p };
  heads = λ h l. record {
    to = let v = w h in omega arith;
    own = λ q. let v = w h in absurd (omega arith);
    none = λ k _ m _. omega arith;
  };
  links = λ k l. absurd (omega arith);
}

pub store_cleared : (t h : ℕ) (X : List ℕ) → t ≤ most_numbers → t ≤ 3 * length X → 1 ≤ h → Store (replicate t 0) (replicate h 0) X 0
store_cleared t h X a b d =
    let p = length-replicate {A = ℕ} t 0 in
    let q = length-replicate {A = ℕ} h 0 in
    store_zero (replicate t 0) (replicate h 0) X (omega arith) (omega arith) (omega arith) (zero_at t) (zero_at h)

pub memo_cleared : {P : ℕ → ℕ → ℕ → ℕ → Type 0} (M : List ℕ) → Places M → Memo P (replicate (length M) 0)
memo_cleared M p = let n = length M in record { places = places_kept (length-replicate {A = ℕ} n 0) p; each = λ j e. absurd (e (zero_at n (4 * j))) }
