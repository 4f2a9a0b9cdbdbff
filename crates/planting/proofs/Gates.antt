-- One gate: the limits that it breaks, and what memory holds of it.
-- Assumes nothing.
use mathlib.Core.Path.{◌≡◌, refl, sym, ◌∙◌}
use mathlib.Core.Bool.{Bool, true, false, cond}
use mathlib.Core.List.{List}
use Prim.Native.Nat.{ℕ, ◌≤◌, ◌<◌}
use native.Mathlib.Omega.{arith}
use lib.Dec.{leb, ltb, eqb}
use lib.ListN.{length}
use borrow.Author.Tests.{lt-ltb, le-ltb, eq-eqb, ne_eqb, eqb-true, eqb-false, ltb-false}
use Rattle.paper.specs.Limits.{limits}
use Rattle.paper.specs.Trees.{Input, Gate, and_g, or_g, least_g, distinct_inputs}
use Rattle.paper.specs.Flat.{gate_of}
use Rattle.paper.specs.Importing.{inputs_to, least_breaks, too_many}
use Rattle.records.specs.Flattened.{kind_of, least_of}
use Rattle.records.proofs.Breaks.{either_false}
use Rattle.planting.specs.Planting.{LeastTold, GateTold, LeastKept}

-- ---- too many

module _ (g used n : ℕ) where
  -- a gate that is not too many has no more inputs than a gate may have
  pub not_many : too_many limits g used n ≡ false → n ≤ limits.inputs
  not_many e =
      let u = either_false (leb limits.gates g) _ e in
      let v = either_false (eqb n 0) _ u.1 in
      let w = either_false (ltb limits.inputs n) _ v.1 in
      ltb-false limits.inputs n w.0

-- ---- the gate of a kind

gate_by : (P : Gate → Type 0) (kind k : ℕ) (is : List Input) → (kind ≡ 2 → P (and_g is)) → (kind ≡ 3 → P (or_g is))
    → ((kind ≡ 2 → ⊥) → (kind ≡ 3 → ⊥) → P (least_g k is)) → P (gate_of kind k is)
gate_by P kind k is p q r = go (eqb kind 2) (eqb kind 3) refl refl
  where
    go : (a b : Bool) → eqb kind 2 ≡ a → eqb kind 3 ≡ b → P (cond a (and_g is) (cond b (or_g is) (least_g k is)))
    go true b e f = p (eqb-true kind 2 e)
    go false true e f = q (eqb-true kind 3 f)
    go false false e f = r (eqb-false kind 2 e) (eqb-false kind 3 f)

pub gate_inputs : (kind k : ℕ) (is : List Input) → inputs_to (gate_of kind k is) ≡ is
gate_inputs kind k is = gate_by (λ x. inputs_to x ≡ is) kind k is (λ _. refl) (λ _. refl) (λ _ _. refl)

pub gate_kind : (kind k : ℕ) (is : List Input) → (2 ≤ kind) × (kind ≤ 4) → kind_of (gate_of kind k is) ≡ kind
gate_kind kind k is h = gate_by (λ x. kind_of x ≡ kind) kind k is (λ e. sym e) (λ e. sym e) (λ a b. go a b)
  where
    go : (kind ≡ 2 → ⊥) → (kind ≡ 3 → ⊥) → 4 ≡ kind
    go a b = omega arith

-- ---- its k

module _ (kind k d : ℕ) where
  pub plain_and : kind ≡ 2 → LeastTold kind k d 0
  plain_and e is l = gate_by (λ x. 0 ≡ least_breaks x) kind k is (λ _. refl) (λ _. refl) (λ a _. absurd (a e))

  pub plain_or : kind ≡ 3 → LeastTold kind k d 0
  plain_or e is l = gate_by (λ x. 0 ≡ least_breaks x) kind k is (λ _. refl) (λ _. refl) (λ _ b. absurd (b e))

  module _ (a : kind ≡ 2 → ⊥) (b : kind ≡ 3 → ⊥) where
    pub least_zero : k ≡ 0 → LeastTold kind k d 5
    least_zero e is l = gate_by (λ x. 5 ≡ least_breaks x) kind k is (λ z. absurd (a z)) (λ z. absurd (b z)) (λ _ _. rw (eq-eqb k 0 e))

    pub least_high : (k ≡ 0 → ⊥) → d < k → LeastTold kind k d 5
    least_high z h is l =
        gate_by (λ x. 5 ≡ least_breaks x) kind k is (λ z. absurd (a z)) (λ z. absurd (b z)) (λ _ _. rw (ne_eqb k 0 z, lt-ltb (length (distinct_inputs is)) k (omega arith)))

    pub least_fine : (k ≡ 0 → ⊥) → k ≤ d → LeastTold kind k d 0
    least_fine z h is l =
        gate_by (λ x. 0 ≡ least_breaks x) kind k is (λ z. absurd (a z)) (λ z. absurd (b z)) (λ _ _. rw (ne_eqb k 0 z, le-ltb (length (distinct_inputs is)) k (omega arith)))

pub kept_least : {kind k : ℕ} → kind ≡ 4 → LeastKept kind k k
kept_least {kind} {k} e is = gate_by (λ x. k ≡ least_of x) kind k is (λ z. absurd (omega arith)) (λ z. absurd (omega arith)) (λ _ _. refl)

pub kept_plain : {kind : ℕ} (k : ℕ) → (2 ≤ kind) × (kind ≤ 4) → (kind ≡ 4 → ⊥) → LeastKept kind k 0
kept_plain {kind} k h never is = gate_by (λ x. 0 ≡ least_of x) kind k is (λ _. refl) (λ _. refl) (λ a b. absurd (never (go a b)))
  where
    go : (kind ≡ 2 → ⊥) → (kind ≡ 3 → ⊥) → kind ≡ 4
    go a b = omega arith

-- ---- its number

module _ (g used kind k n d : ℕ) {b : Bool} (told : b ≡ too_many limits g used n) where
  pub gate_many : b ≡ true → GateTold g used kind k n d 4
  gate_many e is l q = rw (gate_inputs kind k is, l, ← told, e)

  pub gate_least : b ≡ false → {m : ℕ} → LeastTold kind k d m → GateTold g used kind k n d m
  gate_least e t is l q = rw (gate_inputs kind k is, l, ← told, e) (t is (q (not_many g used n (sym told ∙ e))))
