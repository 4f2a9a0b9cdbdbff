-- The limits in record order: 0 exactly when none is broken.
-- Assumes nothing.
use mathlib.Core.Path.{◌≡◌, refl, sym, subst}
use mathlib.Core.Logic.{inl, inr, ◌↔◌}
use mathlib.Core.Bool.{Bool, true, false, cond, ◌||◌, true≢false}
use mathlib.Core.List.{List, [], ◌∷◌}
use Prim.Native.Nat.{ℕ, zero, suc, ◌+◌, ◌<◌, ◌≤◌}
use native.Mathlib.Omega.{arith}
use borrow.Author.Tests.{leb-false, lt-leb, ltb-false, le-ltb, eqb-false, ne_eqb}
use lib.Dec.{leb, ltb, eqb}
use lib.ListN.{length, length-append}
use Rattle.paper.specs.Limits.{Limits, billion}
use Rattle.paper.specs.Lists.{In}
use Rattle.paper.specs.Trees.{Gate, and_g, or_g, least_g, distinct_inputs, Tree, events}
use Rattle.paper.specs.Importing.{or_else, events_break, inputs_to, least_breaks, too_many, gate_breaks, gates_break, broken}
use Rattle.meaning.specs.Within.{LeastFits, all_inputs, Within}

neither : (a b : ℕ) → or_else a b ≡ 0 → (a ≡ 0) × (b ≡ 0)
neither zero b e = (refl, e)
neither (suc a) b e = let z : ⊥ = omega arith in absurd z

both : (a b : ℕ) → a ≡ 0 → b ≡ 0 → or_else a b ≡ 0
both zero b e q = q
both (suc a) b e q = let z : ⊥ = omega arith in absurd z

-- a test that refuses, or the next
passes : (t : Bool) (a b : ℕ) → 0 < a → cond t a b ≡ 0 → (t ≡ false) × (b ≡ 0)
passes true a b h e = let z : ⊥ = omega arith in absurd z
passes false a b h e = (refl, e)

no_or : (a b : Bool) → (a || b) ≡ false → (a ≡ false) × (b ≡ false)
no_or true b e = absurd (true≢false e)
no_or false b e = (refl, e)

-- ---- events

record EventsFit (L : Limits) (e : ℕ) (cs : List ℕ) : Type 0 where
  few : e + length cs ≤ L.events
  fit : (c : ℕ) → In c cs → c ≤ billion

events_fit : (L : Limits) (e : ℕ) (cs : List ℕ) → e ≤ L.events → events_break L e cs ≡ 0 → EventsFit L e cs
unfolding events_break
events_fit L e [] h q = record { few = omega arith; fit = λ c k. absurd k }
events_fit L e (c ∷ cs) h q =
    let (a, b) = passes (leb L.events e) 4 (cond (ltb billion c) 7 (events_break L (suc e) cs)) (omega arith) q in
    let (d, r) = passes (ltb billion c) 7 (events_break L (suc e) cs) (omega arith) b in
    let l = leb-false L.events e a in
    let f = events_fit L (suc e) cs (omega arith) r in
    record { few = omega (arith, f.few); fit = fits (ltb-false billion c d) f.fit }
  where
    fits : c ≤ billion → ((z : ℕ) → In z cs → z ≤ billion) → (z : ℕ) → In z (c ∷ cs) → z ≤ billion
    fits l f z (inl p) = subst (λ w. w ≤ billion) (sym p) l
    fits l f z (inr k) = f z k

events_unbroken : (L : Limits) (e : ℕ) (cs : List ℕ) → EventsFit L e cs → events_break L e cs ≡ 0
unfolding events_break
events_unbroken L e [] f = refl
events_unbroken L e (c ∷ cs) f =
    let l : e < L.events = omega (arith, f.few) in
    rw (lt-leb L.events e l, le-ltb billion c (f.fit c (inl refl)))
    (events_unbroken L (suc e) cs (record { few = omega (arith, f.few); fit = λ z k. f.fit z (inr k) }))

-- ---- gates

least_fits : (x : Gate) → least_breaks x ≡ 0 → LeastFits x
least_fits (and_g is) e = tt
least_fits (or_g is) e = tt
least_fits (least_g k is) e =
    let (a, b) = passes (eqb k 0 || ltb (length (distinct_inputs is)) k) 5 0 (omega arith) e in
    let (c, d) = no_or (eqb k 0) (ltb (length (distinct_inputs is)) k) a in
    let n = eqb-false k 0 c in
    (omega arith, ltb-false (length (distinct_inputs is)) k d)

least_unbroken : (x : Gate) → LeastFits x → least_breaks x ≡ 0
least_unbroken (and_g is) f = refl
least_unbroken (or_g is) f = refl
least_unbroken (least_g k is) f =
    let n : k ≡ 0 → ⊥ = λ e. omega (arith, f.0) in
    rw (ne_eqb k 0 n, le-ltb (length (distinct_inputs is)) k f.1) refl

record GateFits (L : Limits) (g all : ℕ) (x : Gate) : Type 0 where
  few : g < L.gates
  some : 1 ≤ length (inputs_to x)
  size : length (inputs_to x) ≤ L.inputs
  total : all + length (inputs_to x) ≤ L.in_all
  least : LeastFits x

gate_fits : (L : Limits) (g all : ℕ) (x : Gate) → gate_breaks L g all x ≡ 0 → GateFits L g all x
gate_fits L g all x e =
    let n = length (inputs_to x) in
    let (a, b) = passes (too_many L g all n) 4 (least_breaks x) (omega arith) e in
    let (c, d) = no_or (leb L.gates g) (eqb n 0 || (ltb L.inputs n || ltb L.in_all (all + n))) a in
    let (f, h) = no_or (eqb n 0) (ltb L.inputs n || ltb L.in_all (all + n)) d in
    let (i, j) = no_or (ltb L.inputs n) (ltb L.in_all (all + n)) h in
    let z = eqb-false n 0 f in
    record { few = leb-false L.gates g c; some = omega arith; size = ltb-false L.inputs n i; total = ltb-false L.in_all (all + n) j; least = least_fits x b }

gate_unbroken : (L : Limits) (g all : ℕ) (x : Gate) → GateFits L g all x → gate_breaks L g all x ≡ 0
gate_unbroken L g all x f =
    let n = length (inputs_to x) in
    let z : n ≡ 0 → ⊥ = λ e. omega (arith, f.some) in
    rw (lt-leb L.gates g f.few, ne_eqb n 0 z, le-ltb L.inputs n f.size, le-ltb L.in_all (all + n) f.total) (least_unbroken x f.least)

record GatesFit (L : Limits) (g all : ℕ) (xs : List Gate) : Type 0 where
  few : g + length xs ≤ L.gates
  total : all + length (all_inputs xs) ≤ L.in_all
  each : (x : Gate) → In x xs → (1 ≤ length (inputs_to x)) × (length (inputs_to x) ≤ L.inputs) × LeastFits x

gates_fit : (L : Limits) (g all : ℕ) (xs : List Gate) → g ≤ L.gates → all ≤ L.in_all → gates_break L g all xs ≡ 0 → GatesFit L g all xs
unfolding gates_break
gates_fit L g all [] h l e = record { few = omega arith; total = omega arith; each = λ x k. absurd k }
gates_fit L g all (x ∷ xs) h l e =
    let (a, b) = neither (gate_breaks L g all x) (gates_break L (suc g) (all + length (inputs_to x)) xs) e in
    let f = gate_fits L g all x a in
    let r = gates_fit L (suc g) (all + length (inputs_to x)) xs (omega (arith, f.few)) f.total b in
    record { few = omega (arith, r.few); total = omega (arith, r.total, length-append (inputs_to x) (all_inputs xs)); each = fits f r.each }
  where
    fits : GateFits L g all x → ((z : Gate) → In z xs → (1 ≤ length (inputs_to z)) × (length (inputs_to z) ≤ L.inputs) × LeastFits z)
        → (z : Gate) → In z (x ∷ xs) → (1 ≤ length (inputs_to z)) × (length (inputs_to z) ≤ L.inputs) × LeastFits z
    fits f r z (inl p) = subst (λ w. (1 ≤ length (inputs_to w)) × (length (inputs_to w) ≤ L.inputs) × LeastFits w) (sym p) (f.some, f.size, f.least)
    fits f r z (inr k) = r z k

gates_unbroken : (L : Limits) (g all : ℕ) (xs : List Gate) → GatesFit L g all xs → gates_break L g all xs ≡ 0
unfolding gates_break
gates_unbroken L g all [] f = refl
gates_unbroken L g all (x ∷ xs) f =
    let s = length-append (inputs_to x) (all_inputs xs) in
    let (a, b, c) = f.each x (inl refl) in
    both (gate_breaks L g all x) (gates_break L (suc g) (all + length (inputs_to x)) xs)
    (gate_unbroken L g all x (record { few = omega (arith, f.few); some = a; size = b; total = omega (arith, f.total); least = c }))
    (gates_unbroken L (suc g) (all + length (inputs_to x)) xs (record { few = omega (arith, f.few); total = omega (arith, f.total); each = λ z k. f.each z (inr k) }))

-- ---- the whole

pub unbroken_within : (L : Limits) (t : Tree) → broken L t ≡ 0 → Within L t
unfolding broken
unbroken_within L t e =
    let (a, b) = neither (events_break L 0 t.chances) (gates_break L 0 0 t.gates) e in
    let f = events_fit L 0 t.chances (omega arith) a in
    let h = gates_fit L 0 0 t.gates (omega arith) (omega arith) b in
    record {
      few_events = omega (arith, f.few);
      chances = f.fit;
      few_gates = omega (arith, h.few);
      sizes = λ x k. ((h.each x k).0, (h.each x k).1);
      leasts = λ x k. (h.each x k).2;
      few_inputs = omega (arith, h.total);
    }

pub within_unbroken : (L : Limits) (t : Tree) → Within L t → broken L t ≡ 0
unfolding broken
within_unbroken L t w =
    both (events_break L 0 t.chances) (gates_break L 0 0 t.gates)
    (events_unbroken L 0 t.chances (record { few = omega (arith, w.few_events); fit = w.chances }))
    (gates_unbroken L 0 0 t.gates (record { few = omega (arith, w.few_gates); total = omega (arith, w.few_inputs); each = λ x k. ((w.sizes x k).0, (w.sizes x k).1, w.leasts x k) }))

-- 0 EXACTLY WHEN NO LIMIT IS BROKEN
pub unbroken_exactly : (L : Limits) (t : Tree) → (broken L t ≡ 0) ↔ Within L t
unbroken_exactly L t = (unbroken_within L t, within_unbroken L t)
