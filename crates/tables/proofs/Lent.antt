-- What a lent table that passes the check denotes: a diagram with rising events; of a cut diagram, one without failed branch 0.
-- Assumes nothing.
use mathlib.Core.Path.{◌≡◌, refl, sym, ◌∙◌, subst}
use mathlib.Core.Bool.{Bool, true, false}
use mathlib.Core.List.{List}
use Prim.Native.Nat.{ℕ, suc, ◌+◌, ◌-◌, ◌≤◌, ◌<◌}
use native.Mathlib.Omega.{arith}
use Rattle.paper.specs.Diagrams.{leaf, Ordered}
use Rattle.paper.specs.Cuts.{Suppressed}
use Rattle.tables.specs.Table.{failed_at, sound_at, event_of, failed_of, den}
use Rattle.tables.specs.Stored.{Lower}
use Rattle.tables.specs.Lent.{Node, Lent}
use Rattle.tables.proofs.Den.{den_0, den_1, den_node, den_ind}

-- the numbers of slot k are those of node k + 2
number : (k : ℕ) → k + 2 - 2 ≡ k
number k = omega arith

module _ {cut : Bool} {n : ℕ} {T : List ℕ} {c root : ℕ} (lent : Lent cut n T c root) where
  pub lent_node : {i : ℕ} → 2 ≤ i → i < c + 2 → Node n T i
  lent_node {i} h l = (lent.nodes i h l).0

  pub lent_lower : Lower T c
  lent_lower = record {
    failed = λ k h. let q = number k in let f = (lent_node {i = k + 2} (omega arith) (omega arith)).failed in subst (λ j. failed_at T j < k + 2) q f;
    sound = λ k h. let q = number k in let s = (lent_node {i = k + 2} (omega arith) (omega arith)).sound in subst (λ j. sound_at T j < k + 2) q s;
  }

  -- from m on, where a node's own event is at least m
  ordered : (i : ℕ) → i < c + 2 → (m : ℕ) → (2 ≤ i → m ≤ event_of T i) → Ordered m n (den T i)
  ordered =
      den_ind lent_lower (λ i. (m : ℕ) → (2 ≤ i → m ≤ event_of T i) → Ordered m n (den T i)) (λ m a. rw (den_0 T) tt) (λ m a. rw (den_1 T) tt)
      (λ i h l f s m a. rw (den_node lent_lower i h l) (
        a h,
        (lent_node h l).event,
        f (suc (event_of T i)) (lent_node h l).failed_above,
        s (suc (event_of T i)) (lent_node h l).sound_above,
      ))

  pub lent_ordered : {i : ℕ} → i < c + 2 → Ordered 0 n (den T i)
  lent_ordered {i} h = ordered i h 0 (λ _. omega arith)

  -- THE ROOT denotes a diagram of the n events
  pub root_ordered : Ordered 0 n (den T root)
  root_ordered = lent_ordered lent.root_in

-- a number that denotes leaf 0 is 0
den_false : {T : List ℕ} {c : ℕ} → Lower T c → (i : ℕ) → i < c + 2 → den T i ≡ leaf false → i ≡ 0
den_false {T} low =
    den_ind low (λ i. den T i ≡ leaf false → i ≡ 0) (λ e. refl) (λ e. let e' = sym (den_1 T) ∙ e in let bad : ◌≡◌ {A = ℕ} 0 1 = cc in absurd (omega arith))
    (λ i h l f s e. let e' = sym (den_node low i h l) ∙ e in let bad : ◌≡◌ {A = ℕ} 0 1 = cc in absurd (omega arith))

module _ {n : ℕ} {T : List ℕ} {c root : ℕ} (lent : Lent true n T c root) where
  low : Lower T c
  low = lent_lower lent

  pub lent_suppressed : {i : ℕ} → i < c + 2 → Suppressed (den T i)
  lent_suppressed {i} h =
      den_ind low (λ i. Suppressed (den T i)) (rw (den_0 T) tt) (rw (den_1 T) tt)
      (λ i h l f s. let below = (lent_node lent h l).failed in
      rw (den_node low i h l) ((λ z. (lent.nodes i h l).1 (den_false low (failed_of T i) (omega arith) z)), f, s))
      i h

  -- THE ROOT of a cut diagram denotes a family
  pub root_suppressed : Suppressed (den T root)
  root_suppressed = lent_suppressed lent.root_in
