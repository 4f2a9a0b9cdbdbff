-- What a yes or no says of a statement.
-- Assumes nothing.
use mathlib.Core.Path.{◌≡◌, refl, subst}
use mathlib.Core.Bool.{Bool, true, false, not}
use Prim.Native.Nat.{ℕ, ◌<◌}
use lib.Dec.{ltb, eqb}
use borrow.Author.Tests.{ltb-true, ltb-false, eqb-true, eqb-false}
use native.Mathlib.Omega.{arith}
use Rattle.tables.specs.Flags.{Says}

pub says_true : (b : Bool) {P : Type 0} → b ≡ true → Says b P → P
says_true b {P} e h = subst (λ (b : Bool). Says b P) e h

pub says_false : (b : Bool) {P : Type 0} → b ≡ false → Says b P → P → ⊥
says_false b {P} e h = subst (λ (b : Bool). Says b P) e h

-- what is said of a statement is said of an equivalent one
pub says_both : (b : Bool) {P Q : Type 0} → (P → Q) → (Q → P) → Says b P → Says b Q
says_both true f g h = f h
says_both false f g h = λ q. h (g q)

pub says_ltb : (a b : ℕ) {P : Type 0} → (a < b → P) → (P → a < b) → Says (ltb a b) P
says_ltb a b {P} f g = go (ltb a b) refl
  where
    go : (t : Bool) → ltb a b ≡ t → Says t P
    go true e = f (ltb-true a b e)
    go false e = λ p. let h = g p in let k = ltb-false a b e in omega arith

pub says_ne : (a b : ℕ) {P : Type 0} → ((a ≡ b → ⊥) → P) → (P → a ≡ b → ⊥) → Says (not (eqb a b)) P
says_ne a b {P} f g = go (eqb a b) refl
  where
    go : (t : Bool) → eqb a b ≡ t → Says (not t) P
    go true e = λ p. g p (eqb-true a b e)
    go false e = f (eqb-false a b e)
