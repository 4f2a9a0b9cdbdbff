-- The limits of a tree in the order of its records: what a tree that breaks none of them keeps, and the limits of one list behind another.
-- Assumes nothing.
use mathlib.Core.Path.{◌≡◌, refl, ap, ◌∙◌}
use mathlib.Core.Logic.{inl, inr}
use mathlib.Core.Bool.{Bool, true, false, cond, ◌||◌}
use mathlib.Core.List.{List, [], ◌∷◌, ◌++◌, map}
use Prim.Native.Nat.{ℕ, zero, suc, ◌+◌, ◌≤◌, ◌<◌}
use native.Mathlib.Omega.{arith}
use lib.Dec.{leb, ltb, eqb}
use lib.ListN.{length, get_or}
use borrow.Author.Tests.{ltb-false, leb-false, eqb-false}
use Rattle.paper.specs.Limits.{Limits, billion}
use Rattle.paper.specs.Lists.{In, sum}
use Rattle.paper.specs.Trees.{Gate, Tree}
use Rattle.paper.specs.Importing.{or_else, events_break, least_breaks, too_many, gate_breaks, gates_break, broken}
use Rattle.records.specs.Flattened.{size_of}

pub first_none : (a b : ℕ) → or_else a b ≡ 0 → a ≡ 0
first_none zero b e = refl
first_none (suc a) b e = absurd (omega arith)

pub then_none : (a b : ℕ) → or_else a b ≡ 0 → b ≡ 0
then_none zero b e = e
then_none (suc a) b e = absurd (omega arith)

-- a number behind none, one that is some before any, and one before none
pub or_else_none : (a b : ℕ) → a ≡ 0 → or_else a b ≡ b
or_else_none a b e = rw e

pub or_else_some : (a b : ℕ) → 0 < a → or_else a b ≡ a
or_else_some zero b h = absurd (omega arith)
or_else_some (suc a) b h = refl

pub or_else_last : (a : ℕ) → or_else a 0 ≡ a
or_else_last zero = refl
or_else_last (suc a) = refl

pub or_else_assoc : (a b c : ℕ) → or_else a (or_else b c) ≡ or_else (or_else a b) c
or_else_assoc zero b c = refl
or_else_assoc (suc a) b c = refl

pub either_false : (a b : Bool) → (a || b) ≡ false → (a ≡ false) × (b ≡ false)
either_false true b e = let z : ◌≡◌ {A = ℕ} 0 1 = cc in absurd (omega arith)
either_false false b e = (refl, e)

-- ---- events

two_tests : (b d : Bool) (x y z : ℕ) → x ≡ or_else y z → cond b 4 (cond d 7 x) ≡ or_else (cond b 4 (cond d 7 y)) z
two_tests true d x y z e = refl
two_tests false true x y z e = refl
two_tests false false x y z e = e

two_none : (b d : Bool) (x : ℕ) → cond b 4 (cond d 7 x) ≡ 0 → (b ≡ false) × (d ≡ false) × (x ≡ 0)
two_none true d x e = absurd (omega arith)
two_none false true x e = absurd (omega arith)
two_none false false x e = (refl, refl, e)

module _ (L : Limits) where
  pub events_append : (xs ys : List ℕ) (e : ℕ) → events_break L e (xs ++ ys) ≡ or_else (events_break L e xs) (events_break L (e + length xs) ys)
  unfolding events_break
  events_append [] ys e = let q : e ≡ e + 0 = omega arith in ap (λ k. events_break L k ys) q
  events_append (c ∷ xs) ys e =
      let q : suc e + length xs ≡ e + suc (length xs) = omega arith in
      two_tests (leb L.events e) (ltb billion c) _ _ _ (events_append xs ys (suc e) ∙ ap (λ k. or_else (events_break L (suc e) xs) (events_break L k ys)) q)

  pub event_right : (e c : ℕ) (cs : List ℕ) → events_break L e (c ∷ cs) ≡ 0 → (e < L.events) × (c ≤ billion) × (events_break L (suc e) cs ≡ 0)
  unfolding events_break
  event_right e c cs h =
      let t = two_none (leb L.events e) (ltb billion c) (events_break L (suc e) cs) h in
      (leb-false L.events e t.0, ltb-false billion c t.1, t.2)

  pub events_few : (cs : List ℕ) (e : ℕ) → events_break L e cs ≡ 0 → e ≤ L.events → e + length cs ≤ L.events
  events_few [] e h l = omega arith
  events_few (c ∷ cs) e h l =
      let t = event_right e c cs h in
      omega (arith, events_few cs (suc e) t.2 (omega arith))

  pub events_low : (cs : List ℕ) (e : ℕ) → events_break L e cs ≡ 0 → (i : ℕ) → i < length cs → get_or cs i 0 ≤ billion
  events_low [] e h i l = absurd (omega arith)
  events_low (c ∷ cs) e h zero l = (event_right e c cs h).1
  events_low (c ∷ cs) e h (suc i) l = events_low cs (suc e) (event_right e c cs h).2 i (omega arith)

-- ---- gates

-- gate number g, with so many inputs in all before it, breaks no limit
pub record GateRight (L : Limits) (g all : ℕ) (x : Gate) : Type 0 where
  pub few : g < L.gates
  pub some : 1 ≤ size_of x
  pub small : size_of x ≤ L.inputs
  pub room : all + size_of x ≤ L.in_all
  pub least : least_breaks x ≡ 0

four_none : (b : Bool) (x : ℕ) → cond b 4 x ≡ 0 → (b ≡ false) × (x ≡ 0)
four_none true x e = absurd (omega arith)
four_none false x e = (refl, e)

not_none : (n : ℕ) → eqb n 0 ≡ false → 1 ≤ n
not_none zero e = absurd (eqb-false 0 0 e refl)
not_none (suc n) e = omega arith

module _ (L : Limits) where
  pub gate_right : (g all : ℕ) (x : Gate) → gate_breaks L g all x ≡ 0 → GateRight L g all x
  gate_right g all x e =
      let n : ℕ = size_of x in
      let t = four_none (too_many L g all n) (least_breaks x) e in
      let u = either_false (leb L.gates g) _ t.0 in
      let v = either_false (eqb n 0) _ u.1 in
      let w = either_false (ltb L.inputs n) _ v.1 in
      record {
        few = leb-false L.gates g u.0;
        some = not_none n v.0;
        small = ltb-false L.inputs n w.0;
        room = ltb-false L.in_all (all + n) w.1;
        least = t.1;
      }

  pub gates_first : (g all : ℕ) (x : Gate) (xs : List Gate) → gates_break L g all (x ∷ xs) ≡ 0 → GateRight L g all x
  unfolding gates_break
  gates_first g all x xs e = gate_right g all x (first_none (gate_breaks L g all x) _ e)

  pub gates_then : (g all : ℕ) (x : Gate) (xs : List Gate) → gates_break L g all (x ∷ xs) ≡ 0 → gates_break L (suc g) (all + size_of x) xs ≡ 0
  unfolding gates_break
  gates_then g all x xs e = then_none (gate_breaks L g all x) _ e

  pub gates_append : (xs ys : List Gate) (g all : ℕ)
      → gates_break L g all (xs ++ ys) ≡ or_else (gates_break L g all xs) (gates_break L (g + length xs) (all + sum (map size_of xs)) ys)
  unfolding gates_break
  gates_append [] ys g all =
      let p : g ≡ g + 0 = omega arith in
      let q : all ≡ all + 0 = omega arith in
      ap (λ k. gates_break L k all ys) p ∙ ap (λ k. gates_break L (g + 0) k ys) q
  gates_append (x ∷ xs) ys g all =
      let p : suc g + length xs ≡ g + suc (length xs) = omega arith in
      let q : all + size_of x + sum (map size_of xs) ≡ all + (size_of x + sum (map size_of xs)) = omega arith in
      ap (or_else (gate_breaks L g all x)) (gates_append xs ys (suc g) (all + size_of x)
      ∙ ap (λ k. or_else (gates_break L (suc g) (all + size_of x) xs) (gates_break L k (all + size_of x + sum (map size_of xs)) ys)) p
      ∙ ap (λ k. or_else (gates_break L (suc g) (all + size_of x) xs) (gates_break L (g + suc (length xs)) k ys)) q)
      ∙ or_else_assoc (gate_breaks L g all x) _ _

  pub gates_few : (xs : List Gate) (g all : ℕ) → gates_break L g all xs ≡ 0 → g ≤ L.gates → g + length xs ≤ L.gates
  gates_few [] g all e l = omega arith
  gates_few (x ∷ xs) g all e l =
      let r = gates_first g all x xs e in
      omega (arith, gates_few xs (suc g) (all + size_of x) (gates_then g all x xs e) (omega (arith, r.few)))

  pub gates_room : (xs : List Gate) (g all : ℕ) → gates_break L g all xs ≡ 0 → all ≤ L.in_all → all + sum (map size_of xs) ≤ L.in_all
  gates_room [] g all e l = omega arith
  gates_room (x ∷ xs) g all e l =
      let r = gates_first g all x xs e in
      omega (arith, gates_room xs (suc g) (all + size_of x) (gates_then g all x xs e) r.room)

  -- every gate has some inputs, not too many, and a k that they allow
  pub gates_right : (xs : List Gate) (g all : ℕ) → gates_break L g all xs ≡ 0 → (x : Gate) → In x xs
      → (1 ≤ size_of x) × (size_of x ≤ L.inputs) × (least_breaks x ≡ 0)
  gates_right [] g all e x h = absurd h
  gates_right (y ∷ xs) g all e x (inl q) =
      let r = gates_first g all y xs e in
      rw q (r.some, r.small, r.least)
  gates_right (y ∷ xs) g all e x (inr h) = gates_right xs (suc g) (all + size_of y) (gates_then g all y xs e) x h

pub broken_events : (L : Limits) (t : Tree) → broken L t ≡ 0 → events_break L 0 t.chances ≡ 0
unfolding broken
broken_events L t e = first_none (events_break L 0 t.chances) _ e

pub broken_gates : (L : Limits) (t : Tree) → broken L t ≡ 0 → gates_break L 0 0 t.gates ≡ 0
unfolding broken
broken_gates L t e = then_none (events_break L 0 t.chances) _ e
