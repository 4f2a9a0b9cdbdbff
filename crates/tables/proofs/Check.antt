-- A node's rules, with the numbers that the code read.
-- Assumes nothing.
use mathlib.Core.Path.{◌≡◌, sym, ◌∙◌, subst, subst₂}
use mathlib.Core.Bool.{Bool, true, false, not}
use mathlib.Core.Logic.{◌≢◌}
use mathlib.Core.List.{List}
use Prim.Native.Nat.{ℕ, ◌-◌, ◌≤◌, ◌<◌}
use native.Mathlib.Omega.{arith}
use lib.Dec.{eqb, ltb}
use Rattle.tables.specs.Table.{event_of, failed_of, sound_of}
use Rattle.tables.specs.Flags.{Says}
use Rattle.tables.specs.Lent.{Above, Node, Kind}
use Rattle.tables.specs.Check.{Before, Failed}
use Rattle.tables.proofs.Flags.{says_true, says_false, says_both, says_ltb, says_ne}

-- ---- the event and the failed branch

module _ (cut : Bool) (n : ℕ) (T : List ℕ) (i e f : ℕ) where
  -- a node before this one: its event is in range, so a lower one is
  pub failed_node : Before n T i → 2 ≤ f → (b : Bool) → Says b ((f < i) × (e < event_of T f)) → Says b (Failed cut n T i e f)
  failed_node be two b h =
      says_both b (λ p. let r = be f two p.0 in let l = p.1 in record { event = omega arith; lower = p.0; above = λ _. l; some = λ _ z. omega arith })
      (λ v. (v.lower, v.above two)) h

  pub failed_none : cut ≡ true → f ≡ 0 → Failed cut n T i e f → ⊥
  failed_none q z v = v.some q z

  pub failed_leaf : 2 ≤ i → f < 2 → (cut ≡ true → f ≢ 0) → Says (ltb e n) (Failed cut n T i e f)
  failed_leaf i2 low some = says_ltb e n (λ h. record { event = h; lower = omega arith; above = λ two. absurd (omega arith); some = some }) (λ v. v.event)

-- ---- the sound branch

pub sound_node : (T : List ℕ) (i e s : ℕ) → 2 ≤ s → (b : Bool) → Says b ((s < i) × (e < event_of T s)) → Says b ((s < i) × Above T e s)
sound_node T i e s two b h = says_both b (λ p. (p.0, λ _. p.1)) (λ p. (p.0, p.1 two)) h

-- ---- all of a node

module _ (n : ℕ) (T : List ℕ) (i : ℕ) {e f s : ℕ} (qe : e ≡ event_of T i) (qf : f ≡ failed_of T i) (qs : s ≡ sound_of T i) (cut : Bool) where
  some_branch : Kind cut T i → cut ≡ true → f ≢ 0
  some_branch k q z = let h : failed_of T i ≡ 0 → ⊥ = subst (λ (b : Bool). Kind b T i) q k in h (sym qf ∙ z)

  pub no_failed : (b : Bool) → b ≡ false → Says b (Failed cut n T i e f) → Node n T i × Kind cut T i → ⊥
  no_failed b q h p =
      let v = p.0.event in
      let l = p.0.failed in
      says_false b q h (record { event = omega arith; lower = omega arith; above = subst₂ (Above T) (sym qe) (sym qf) p.0.failed_above; some = some_branch p.1 })

  pub no_sound : (b : Bool) → b ≡ false → Says b ((s < i) × Above T e s) → Node n T i × Kind cut T i → ⊥
  no_sound b q h p = let l = p.0.sound in says_false b q h (omega arith, subst₂ (Above T) (sym qe) (sym qs) p.0.sound_above)

  module _ (b₁ b₂ : Bool) (q₁ : b₁ ≡ true) (q₂ : b₂ ≡ true) (a₁ : Says b₁ (Failed cut n T i e f)) (a₂ : Says b₂ ((s < i) × Above T e s)) where
    failed : Failed cut n T i e f
    failed = says_true b₁ q₁ a₁

    sound : (s < i) × Above T e s
    sound = says_true b₂ q₂ a₂

    this : Node n T i
    this =
        let v = failed.event in
        let l = failed.lower in
        let m = sound.0 in
        record {
          event = omega arith;
          failed = omega arith;
          sound = omega arith;
          failed_above = subst₂ (Above T) qe qf failed.above;
          sound_above = subst₂ (Above T) qe qs sound.1;
        }

    pub last_cut : cut ≡ true → Node n T i × Kind cut T i
    last_cut q = (this, subst (λ (b : Bool). Kind b T i) (sym q) (λ z. failed.some q (qf ∙ z)))

    pub last_other : cut ≡ false → Says (not (eqb f s)) (Node n T i × Kind cut T i)
    last_other q =
        says_ne f s (λ h. (this, subst (λ (b : Bool). Kind b T i) (sym q) (λ z. h (qf ∙ z ∙ sym qs))))
        (λ p z. let k : failed_of T i ≡ sound_of T i → ⊥ = subst (λ (b : Bool). Kind b T i) q p.1 in k (sym qf ∙ z ∙ qs))
