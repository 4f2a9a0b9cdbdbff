-- Two nodes taken apart at the earlier of their events, each pair of branches in the order of their numbers.
-- Assumes nothing.
use mathlib.Core.Path.{◌≡◌, sym, ◌∙◌}
use mathlib.Core.Logic.{◌⊎◌, inl, inr}
use mathlib.Core.Bool.{Bool}
use mathlib.Core.List.{List}
use Prim.Native.Nat.{ℕ, ◌+◌, ◌-◌, ◌<◌, ◌≤◌, min, max}
use native.Mathlib.Omega.{arith}
use Rattle.paper.specs.Diagrams.{node, mk_d}
use Rattle.algebra.specs.Operations.{join_d}
use Rattle.tables.specs.Table.{event_of, failed_of, sound_of, den}
use Rattle.tables.proofs.Den.{den_node}
use Rattle.store.specs.Store.{Store}
use Rattle.store.proofs.Denotes.{below_or_not}
use Rattle.pairs.specs.Pairs.{Arranged, Parted}
use Rattle.store.specs.declared.Parts.{Parts}
use Rattle.algebra.proofs.JoinLaws.{join_first, join_second, join_both, join_comm}

-- which operand is first is no matter
pub join_arranged : (T : List ℕ) (z : Bool) (a b x y : ℕ) → x ≡ min a b → y ≡ max a b → join_d z (den T x) (den T y) ≡ join_d z (den T a) (den T b)
join_arranged T z a b x y p q = go (below_or_not a b)
  where
    go : (a < b) ⊎ (b ≤ a) → join_d z (den T x) (den T y) ≡ join_d z (den T a) (den T b)
    go (inl l) = let u : x ≡ a = omega arith in let v : y ≡ b = omega arith in λ j. join_d z (den T (u j)) (den T (v j))
    go (inr l) = let u : x ≡ b = omega arith in let v : y ≡ a = omega arith in (λ j. join_d z (den T (u j)) (den T (v j))) ∙ join_comm z (den T b) (den T a)

-- the branches before they are put in order
module _ {T : List ℕ} {f g e a₁ b₁ a₀ b₀ : ℕ} {p : Parts} (q : Arranged e a₁ b₁ a₀ b₀ p)
    (in_1 : max a₁ b₁ ≤ max f g) (in_0 : max a₀ b₀ ≤ max f g) (less_1 : a₁ + b₁ < f + g) (less_0 : a₀ + b₀ < f + g)
    (joins : (z : Bool) → join_d z (den T f) (den T g) ≡ mk_d e (join_d z (den T a₁) (den T b₁)) (join_d z (den T a₀) (den T b₀))) where
  parted : Parted T f g p
  parted = record {
    order_1 = omega arith;
    order_0 = omega arith;
    in_1 = omega arith;
    in_0 = omega arith;
    less_1 = omega arith;
    less_0 = omega arith;
    joins = λ z.
        let u = join_arranged T z a₁ b₁ p.f1 p.g1 q.low_1 q.high_1 in
        let v = join_arranged T z a₀ b₀ p.f0 p.g0 q.low_0 q.high_0 in
        let w = q.event in
        joins z ∙ (λ j. mk_d (sym w j) (sym u j) (sym v j));
  }

module _ {T H X : List ℕ} {c f g : ℕ} (t : Store T H X c) (f2 : 2 ≤ f) (lf : f < c + 2) (g2 : 2 ≤ g) (lg : g < c + 2) where
  df : den T f ≡ node (event_of T f) (den T (failed_of T f)) (den T (sound_of T f))
  df = den_node t.lower f f2 lf

  dg : den T g ≡ node (event_of T g) (den T (failed_of T g)) (den T (sound_of T g))
  dg = den_node t.lower g g2 lg

  bf : (failed_of T f < f) × (sound_of T f < f)
  bf = let x = t.lower.failed (f - 2) (omega arith) in let y = t.lower.sound (f - 2) (omega arith) in omega arith

  bg : (failed_of T g < g) × (sound_of T g < g)
  bg = let x = t.lower.failed (g - 2) (omega arith) in let y = t.lower.sound (g - 2) (omega arith) in omega arith

  pub apart_first : {p : Parts} → event_of T f < event_of T g → Arranged (event_of T f) (failed_of T f) g (sound_of T f) g p → Parted T f g p
  apart_first l q =
      let x = bf in
      parted q (omega arith) (omega arith) (omega arith) (omega arith)
      (λ z. rw (df, dg) (join_first z (event_of T f) (den T (failed_of T f)) (den T (sound_of T f)) (event_of T g) (den T (failed_of T g)) (den T (sound_of T g)) l))

  pub apart_second : {p : Parts} → event_of T g < event_of T f → Arranged (event_of T g) f (failed_of T g) f (sound_of T g) p → Parted T f g p
  apart_second l q =
      let x = bg in
      parted q (omega arith) (omega arith) (omega arith) (omega arith)
      (λ z. rw (df, dg) (join_second z (event_of T f) (den T (failed_of T f)) (den T (sound_of T f)) (event_of T g) (den T (failed_of T g)) (den T (sound_of T g)) l))

  pub apart_both : {p : Parts} → event_of T g ≤ event_of T f → event_of T f ≤ event_of T g → Arranged (event_of T f) (failed_of T f) (failed_of T g) (sound_of T f) (sound_of T g) p → Parted T f g p
  apart_both l m q =
      let x = bf in
      let y = bg in
      parted q (omega arith) (omega arith) (omega arith) (omega arith)
      (λ z. rw (df, dg) (join_both z (event_of T f) (den T (failed_of T f)) (den T (sound_of T f)) (event_of T g) (den T (failed_of T g)) (den T (sound_of T g)) l m))
