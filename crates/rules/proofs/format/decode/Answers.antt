-- `rules::format::decode` meets its contract.
-- Assumes nothing.
use mathlib.Core.Path.{◌≡◌, refl, sym, ◌∙◌}
use mathlib.Core.List.{[], ◌∷◌}
use Prim.Native.Nat.{ℕ, ◌+◌, ◌*◌}
use mir.Syntax.{w16, w32}
use Rattle.std.specs.Int.{from_le_bytes}
use native.Mathlib.Omega.{arith}
use Rattle.rules.specs.Format.{byte, body_of}
use Rattle.rules.proofs.Cases.{is_missing, is_unknown, is_short, is_whole, body_end}
use Rattle.rules.proofs.format.decode.Goals as goal

-- a number's bytes, the low one first
two_bytes : {n : ℕ} (a b : ℕ) → n ≡ from_le_bytes w16 (a ∷ b ∷ []) → n ≡ a + 256 * b
two_bytes a b e = omega arith

four_bytes : {n : ℕ} (a b c d : ℕ) → n ≡ from_le_bytes w32 (a ∷ b ∷ c ∷ d ∷ []) → n ≡ a + 256 * (b + 256 * (c + 256 * d))
four_bytes a b c d e = omega arith

pub returns-then-b-eq0 : goal.returns-then-b-eq0
returns-then-b-eq0 c = is_missing _ c.if-b-eq0.true

pub returns-then-n-eq0 : goal.returns-then-n-eq0
returns-then-n-eq0 c = is_unknown _ c.if-b-eq0.false (sym c.length-n.ensures ∙ c.if-n-eq0.true)

pub returns-then-b-n : goal.returns-then-b-n
returns-then-b-n c = is_short _ c.if-b-eq0.false (λ z. c.if-n-eq0.false (c.length-n.ensures ∙ z)) (rw c.length-n.ensures at c.if-b-n.true)

pub bounds-b-1 : goal.bounds-b-1
bounds-b-1 c = omega (arith, rw (c.length-n.ensures, c.in-1.is) at c.if-b-n.false)

pub bounds-b-2 : goal.bounds-b-2
bounds-b-2 c = omega (arith, rw (c.length-n.ensures, c.in-1.is) at c.if-b-n.false)

pub bounds-b-3 : goal.bounds-b-3
bounds-b-3 c = omega (arith, rw (c.length-n.ensures, c.in-1.is) at c.if-b-n.false)

pub bounds-b-4 : goal.bounds-b-4
bounds-b-4 c = omega (arith, rw (c.length-n.ensures, c.in-1.is) at c.if-b-n.false)

pub bounds-b-1-in-2 : goal.bounds-b-1-in-2
bounds-b-1-in-2 c = omega (arith, rw (c.length-n.ensures, c.in-2.is) at c.if-b-n.false)

pub bounds-b-1-in-3 : goal.bounds-b-1-in-3
bounds-b-1-in-3 c = omega (arith, rw (c.length-n.ensures, c.in-3.is) at c.if-b-n.false)

pub bounds-b-1-in-4 : goal.bounds-b-1-in-4
bounds-b-1-in-4 c = omega (arith, rw (c.length-n.ensures, c.in-4.is) at c.if-b-n.false)

pub bounds-b-2-in-4 : goal.bounds-b-2-in-4
bounds-b-2-in-4 c = omega (arith, rw (c.length-n.ensures, c.in-4.is) at c.if-b-n.false)

pub bounds-b-1-in-5 : goal.bounds-b-1-in-5
bounds-b-1-in-5 c = omega (arith, rw (c.length-n.ensures, c.in-5.is) at c.if-b-n.false)

pub bounds-b-1-in-6 : goal.bounds-b-1-in-6
bounds-b-1-in-6 c = omega (arith, rw (c.length-n.ensures, c.in-6.is) at c.if-b-n.false)

pub bounds-b-2-in-6 : goal.bounds-b-2-in-6
bounds-b-2-in-6 c = omega (arith, rw (c.length-n.ensures, c.in-6.is) at c.if-b-n.false)

pub bounds-b-1-in-8 : goal.bounds-b-1-in-8
bounds-b-1-in-8 c = omega (arith, rw (c.length-n.ensures, c.in-8.is) at c.if-b-n.false)

pub bounds-b-2-in-8 : goal.bounds-b-2-in-8
bounds-b-2-in-8 c = omega (arith, rw (c.length-n.ensures, c.in-8.is) at c.if-b-n.false)

pub bounds-b-1-in-17 : goal.bounds-b-1-in-17
bounds-b-1-in-17 c = omega (arith, rw (c.length-n.ensures, c.in-17.is) at c.if-b-n.false)

pub bounds-b-2-in-17 : goal.bounds-b-2-in-17
bounds-b-2-in-17 c = omega (arith, rw (c.length-n.ensures, c.in-17.is) at c.if-b-n.false)

pub bounds-b-3-in-17 : goal.bounds-b-3-in-17
bounds-b-3-in-17 c = omega (arith, rw (c.length-n.ensures, c.in-17.is) at c.if-b-n.false)

pub bounds-b-4-in-17 : goal.bounds-b-4-in-17
bounds-b-4-in-17 c = omega (arith, rw (c.length-n.ensures, c.in-17.is) at c.if-b-n.false)

pub bounds-b-5 : goal.bounds-b-5
bounds-b-5 c = omega (arith, rw (c.length-n.ensures, c.in-17.is) at c.if-b-n.false)

pub bounds-b-6 : goal.bounds-b-6
bounds-b-6 c = omega (arith, rw (c.length-n.ensures, c.in-17.is) at c.if-b-n.false)

pub returns-in-1 : goal.returns-in-1
unfolding body_of
returns-in-1 c = rw (four_bytes (byte c.args.b.now 1) (byte c.args.b.now 2) (byte c.args.b.now 3) (byte c.args.b.now 4) c.from_le_bytes.ensures) (is_whole _ 1 c.in-1.is c.if-b-eq0.false (λ z. omega arith) (rw (c.length-n.ensures, c.in-1.is) at c.if-b-n.false))

pub returns-in-2 : goal.returns-in-2
unfolding body_of
returns-in-2 c = is_whole _ 2 c.in-2.is c.if-b-eq0.false (λ z. omega arith) (rw (c.length-n.ensures, c.in-2.is) at c.if-b-n.false)

pub returns-in-3 : goal.returns-in-3
unfolding body_of
returns-in-3 c = is_whole _ 3 c.in-3.is c.if-b-eq0.false (λ z. omega arith) (rw (c.length-n.ensures, c.in-3.is) at c.if-b-n.false)

pub returns-in-4 : goal.returns-in-4
unfolding body_of
returns-in-4 c = is_whole _ 4 c.in-4.is c.if-b-eq0.false (λ z. omega arith) (rw (c.length-n.ensures, c.in-4.is) at c.if-b-n.false)

pub returns-in-5 : goal.returns-in-5
unfolding body_of
returns-in-5 c = is_whole _ 5 c.in-5.is c.if-b-eq0.false (λ z. omega arith) (rw (c.length-n.ensures, c.in-5.is) at c.if-b-n.false)

pub returns-in-6 : goal.returns-in-6
unfolding body_of
returns-in-6 c = rw (two_bytes (byte c.args.b.now 1) (byte c.args.b.now 2) c.from_le_bytes-in-6.ensures) (is_whole _ 6 c.in-6.is c.if-b-eq0.false (λ z. omega arith) (rw (c.length-n.ensures, c.in-6.is) at c.if-b-n.false))

pub returns-in-8 : goal.returns-in-8
unfolding body_of
returns-in-8 c = rw (two_bytes (byte c.args.b.now 1) (byte c.args.b.now 2) c.from_le_bytes-in-8.ensures) (is_whole _ 8 c.in-8.is c.if-b-eq0.false (λ z. omega arith) (rw (c.length-n.ensures, c.in-8.is) at c.if-b-n.false))

pub returns-in-17 : goal.returns-in-17
unfolding body_of
returns-in-17 c = rw (four_bytes (byte c.args.b.now 1) (byte c.args.b.now 2) (byte c.args.b.now 3) (byte c.args.b.now 4) c.from_le_bytes-in-17.ensures, two_bytes (byte c.args.b.now 5) (byte c.args.b.now 6) c.from_le_bytes-in-17-2.ensures) (is_whole _ 17 c.in-17.is c.if-b-eq0.false (λ z. omega arith) (rw (c.length-n.ensures, c.in-17.is) at c.if-b-n.false))

pub returns-in_default : goal.returns-in_default
returns-in_default c = let r = c.in_default.in_default-own.rest in body_end _ _ r.0.0.0.0.0.0.0.1 r.0.0.0.0.0.0.1 r.0.0.0.0.0.1 r.0.0.0.0.1 r.0.0.0.1 r.0.0.1 r.0.1 r.1 ∙ is_whole _ _ refl c.if-b-eq0.false (λ z. c.if-n-eq0.false (c.length-n.ensures ∙ z)) (rw c.length-n.ensures at c.if-b-n.false)
