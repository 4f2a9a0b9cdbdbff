-- What a stored number denotes, in any table whose branches are lower than their node.
-- Assumes nothing.
use mathlib.Core.Path.{◌≡◌, refl, ap, ap₂, ◌∙◌}
use mathlib.Core.Bool.{true, false}
use mathlib.Core.List.{List}
use Prim.Native.Nat.{ℕ, zero, suc, ◌+◌, ◌-◌, ◌≤◌, ◌<◌}
use native.Mathlib.Omega.{arith}
use Rattle.paper.specs.Diagrams.{leaf, node}
use Rattle.tables.specs.Table.{event_at, failed_at, sound_at, event_of, failed_of, sound_of, den_in, den}
use Rattle.tables.specs.Stored.{Lower, Kept}

-- the leaves
pub den_0 : (T : List ℕ) → den T 0 ≡ leaf false
unfolding den den_in
den_0 T = refl

pub den_1 : (T : List ℕ) → den T 1 ≡ leaf true
unfolding den den_in
den_1 T = refl

module _ {T : List ℕ} {c : ℕ} (low : Lower T c) where
  -- any depth from the number itself on reads the same
  deep : (k l i : ℕ) → i < c + 2 → i ≤ k → i ≤ l → den_in k T i ≡ den_in l T i
  unfolding den_in
  deep zero zero i h a b = refl
  deep zero (suc l) zero h a b = refl
  deep zero (suc l) (suc j) h a b = absurd (omega arith)
  deep (suc k) zero zero h a b = refl
  deep (suc k) zero (suc j) h a b = absurd (omega arith)
  deep (suc k) (suc l) zero h a b = refl
  deep (suc k) (suc l) (suc zero) h a b = refl
  deep (suc k) (suc l) (suc (suc j)) h a b =
      let p = low.failed j (omega arith) in
      let q = low.sound j (omega arith) in
      ap₂ (node (event_at T j)) (deep k l (failed_at T j) (omega arith) (omega arith) (omega arith))
      (deep k l (sound_at T j) (omega arith) (omega arith) (omega arith))

  -- a node, by its slot
  slot : (j : ℕ) → j < c → den T (suc (suc j)) ≡ node (event_at T j) (den T (failed_at T j)) (den T (sound_at T j))
  unfolding den den_in
  slot j h =
      let p = low.failed j h in
      let q = low.sound j h in
      ap₂ (node (event_at T j)) (deep (suc j) (failed_at T j) (failed_at T j) (omega arith) (omega arith) (omega arith))
      (deep (suc j) (sound_at T j) (sound_at T j) (omega arith) (omega arith) (omega arith))

  pub den_slot : (k : ℕ) → k < c → den T (k + 2) ≡ node (event_at T k) (den T (failed_at T k)) (den T (sound_at T k))
  den_slot k h = let q : k + 2 ≡ suc (suc k) = omega arith in rw q (slot k h)

  -- and by its number
  pub den_node : (i : ℕ) → 2 ≤ i → i < c + 2 → den T i ≡ node (event_of T i) (den T (failed_of T i)) (den T (sound_of T i))
  den_node i h l = let q : i ≡ i - 2 + 2 = omega arith in ap (den T) q ∙ den_slot (i - 2) (omega arith)

  -- what holds of the leaves, and of a node where it holds of its branches, holds of each stored number
  pub den_ind : (P : ℕ → Type 0) → P 0 → P 1 → ((i : ℕ) → 2 ≤ i → i < c + 2 → P (failed_of T i) → P (sound_of T i) → P i) → (i : ℕ) → i < c + 2 → P i
  den_ind P p q step i h = up i i h (omega arith)
    where
      one : (i : ℕ) → i < c + 2 → ((j : ℕ) → j < i → P j) → P i
      one zero h ih = p
      one (suc zero) h ih = q
      one (suc (suc j)) h ih =
          let a = low.failed (suc (suc j) - 2) (omega arith) in
          let b = low.sound (suc (suc j) - 2) (omega arith) in
          step (suc (suc j)) (omega arith) h (ih (failed_of T (suc (suc j))) (omega arith)) (ih (sound_of T (suc (suc j))) (omega arith))

      up : (k i : ℕ) → i < c + 2 → i ≤ k → P i
      up zero i h l = one i h (λ j m. absurd (omega arith))
      up (suc k) i h l = one i h (λ j m. up k j (omega arith) (omega arith))

  -- a table that grew: what was stored denotes what it did
  module _ {T' : List ℕ} (kept : Kept T T' c) where
    kept_in : (k i : ℕ) → i < c + 2 → den_in k T i ≡ den_in k T' i
    unfolding den_in
    kept_in zero i h = refl
    kept_in (suc k) zero h = refl
    kept_in (suc k) (suc zero) h = refl
    kept_in (suc k) (suc (suc j)) h =
        let a : j < c = omega arith in
        let p = low.failed j a in
        let q = low.sound j a in
        rw (← kept.event j a, ← kept.failed j a, ← kept.sound j a)
        (ap₂ (node (event_at T j)) (kept_in k (failed_at T j) (omega arith)) (kept_in k (sound_at T j) (omega arith)))

    pub den_kept : (i : ℕ) → i < c + 2 → den T i ≡ den T' i
    unfolding den
    den_kept i h = kept_in i i h
