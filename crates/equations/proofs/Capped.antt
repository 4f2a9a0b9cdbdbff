-- Capped chances and capped k break the limits of a tree exactly where the true ones do, and where nothing breaks they are the true ones.
-- Assumes nothing.
use mathlib.Core.Path.{◌≡◌, refl, sym, ap, ◌∙◌}
use mathlib.Core.Logic.{inl, inr}
use mathlib.Core.Bool.{Bool, true, false, cond, ◌||◌, true≢false}
use mathlib.Core.List.{List, [], ◌∷◌, map}
use Prim.Native.Nat.{ℕ, zero, suc, ◌+◌, ◌<◌, ◌≤◌}
use native.Mathlib.Omega.{arith}
use lib.Dec.{leb, ltb, eqb}
use lib.ListN.{length}
use borrow.Author.Tests.{ltb-true, ltb-false, lt-ltb, le-ltb, eqb-true, eqb-false, eq-eqb, ne_eqb}
use Rattle.paper.specs.Limits.{limits, billion}
use Rattle.paper.specs.Lists.{In}
use Rattle.paper.specs.Trees.{Gate, and_g, or_g, least_g, same_input, distinct_inputs, Tree}
use Rattle.paper.specs.Importing.{or_else, inputs_to, events_break, least_breaks, too_many, gate_breaks, gates_break, broken}
use Rattle.twins.proofs.Firsts.{firsts_length}
use Rattle.rules.proofs.Cases.{either}
use Rattle.records.specs.Flattened.{size_of}
use Rattle.records.proofs.Breaks.{event_right, gates_first, gates_then}
use Rattle.records.proofs.Flattened.{least_right}
use Rattle.lines.specs.Reading.{Capped}
use Rattle.lines.proofs.Numbers.{capped_within, capped_beyond, capped_exact}
use Rattle.equations.specs.Kinds.{CappedGate, same, least}

-- ---- one number

module _ {n r : ℕ} (c : Capped n r) where
  above_same : (limit : ℕ) → limit < 4294967295 → ltb limit n ≡ ltb limit r
  above_same limit h =
      either (ltb limit r)
      (λ e. lt-ltb limit n (capped_beyond c limit h (ltb-true limit r e)) ∙ sym e)
      (λ e. le-ltb limit n (capped_within c limit h (ltb-false limit r e)) ∙ sym e)

  zero_same : eqb n 0 ≡ eqb r 0
  zero_same =
      either (eqb r 0)
      (λ e. let q : r ≡ 0 = eqb-true r 0 e in let l : r ≤ 0 = omega arith in let k : n ≤ 0 = capped_within c 0 (omega arith) l in eq-eqb n 0 (omega arith) ∙ sym e)
      (λ e. ne_eqb n 0 (λ q. let l : 0 < r = more r (eqb-false r 0 e) in let k : 0 < n = capped_beyond c 0 (omega arith) l in omega arith) ∙ sym e)
    where
      more : (m : ℕ) → (m ≡ 0 → ⊥) → 0 < m
      more zero h = absurd (h refl)
      more (suc m) h = omega arith

-- ---- events

module _ {f h : ℕ → ℕ} where
  pub events_same : (l : List ℕ) (e : ℕ) → ((x : ℕ) → In x l → Capped (f x) (h x)) → events_break limits e (map f l) ≡ events_break limits e (map h l)
  unfolding events_break
  events_same [] e k = refl
  events_same (x ∷ l) e k =
      ap (λ b. cond (leb limits.events e) 4 (cond b 7 (events_break limits (suc e) (map f l)))) (above_same (k x (inl refl)) billion (omega arith))
      ∙ ap (λ m. cond (leb limits.events e) 4 (cond (ltb billion (h x)) 7 m)) (events_same l (suc e) (λ y i. k y (inr i)))

  pub events_equal : (l : List ℕ) (e : ℕ) → ((x : ℕ) → In x l → Capped (f x) (h x)) → events_break limits e (map h l) ≡ 0 → map h l ≡ map f l
  events_equal [] e k b = refl
  events_equal (x ∷ l) e k b =
      let r = event_right limits e (h x) (map h l) b in
      let q : h x ≡ f x = capped_exact (k x (inl refl)) (omega (arith, r.1)) in
      λ i. q i ∷ events_equal l (suc e) (λ y j. k y (inr j)) r.2 i

-- ---- gates

or_none : (a b : Bool) → (a || b) ≡ false → (a ≡ false) × (b ≡ false)
or_none true b e = absurd (true≢false e)
or_none false b e = (refl, e)

inputs_same : {x y : Gate} → CappedGate x y → inputs_to x ≡ inputs_to y
inputs_same (same x) = refl
inputs_same (least n k is c) = refl

gate_same : (g all : ℕ) {x y : Gate} → CappedGate x y → gate_breaks limits g all x ≡ gate_breaks limits g all y
gate_same g all (same x) = refl
gate_same g all (least n k is c) = go (too_many limits g all (length is)) refl
  where
    go : (b : Bool) → too_many limits g all (length is) ≡ b → cond b 4 (least_breaks (least_g n is)) ≡ cond b 4 (least_breaks (least_g k is))
    go true e = refl
    go false e =
        let a = or_none (leb limits.gates g) _ e in
        let b = or_none (eqb (length is) 0) _ a.1 in
        let d = or_none (ltb limits.inputs (length is)) _ b.1 in
        let s : length is ≤ limits.inputs = ltb-false limits.inputs (length is) d.0 in
        let m : ℕ = length (distinct_inputs is) in
        ap (λ t. cond (t || ltb m n) 5 0) (zero_same c) ∙ ap (λ t. cond (eqb k 0 || t) 5 0) (above_same c m (omega (arith, firsts_length same_input is)))

gate_equal : {x y : Gate} → CappedGate x y → size_of y ≤ limits.inputs → least_breaks y ≡ 0 → y ≡ x
gate_equal (same x) s b = refl
gate_equal (least n k is c) s b =
    let r = least_right (least_g k is) b refl in
    ap (λ m. least_g m is) (capped_exact c (omega (arith, r.1, firsts_length same_input is)))

module _ {f h : ℕ → Gate} where
  pub gates_same : (l : List ℕ) (g all : ℕ) → ((x : ℕ) → In x l → CappedGate (f x) (h x)) → gates_break limits g all (map f l) ≡ gates_break limits g all (map h l)
  unfolding gates_break
  gates_same [] g all k = refl
  gates_same (x ∷ l) g all k =
      ap (λ m. or_else m (gates_break limits (suc g) (all + length (inputs_to (f x))) (map f l))) (gate_same g all (k x (inl refl)))
      ∙ ap (λ is. or_else (gate_breaks limits g all (h x)) (gates_break limits (suc g) (all + length is) (map f l))) (inputs_same (k x (inl refl)))
      ∙ ap (or_else (gate_breaks limits g all (h x))) (gates_same l (suc g) (all + length (inputs_to (h x))) (λ y i. k y (inr i)))

  pub gates_equal : (l : List ℕ) (g all : ℕ) → ((x : ℕ) → In x l → CappedGate (f x) (h x)) → gates_break limits g all (map h l) ≡ 0 → map h l ≡ map f l
  gates_equal [] g all k b = refl
  gates_equal (x ∷ l) g all k b =
      let r = gates_first limits g all (h x) (map h l) b in
      let q : h x ≡ f x = gate_equal (k x (inl refl)) r.small r.least in
      λ i. q i ∷ gates_equal l (suc g) (all + size_of (h x)) (λ y j. k y (inr j)) (gates_then limits g all (h x) (map h l) b) i

-- ---- no limit has the number of a ring

module _ where
  or_else_low : (a b : ℕ) → a ≤ 7 → b ≤ 7 → or_else a b ≤ 7
  or_else_low zero b h k = k
  or_else_low (suc a) b h k = h

  events_low : (e : ℕ) (l : List ℕ) → events_break limits e l ≤ 7
  unfolding events_break
  events_low e [] = omega arith
  events_low e (c ∷ l) = go (leb limits.events e) (ltb billion c) (events_low (suc e) l)
    where
      go : (a b : Bool) {m : ℕ} → m ≤ 7 → cond a 4 (cond b 7 m) ≤ 7
      go true b h = omega arith
      go false true h = omega arith
      go false false h = h

  least_low : (x : Gate) → least_breaks x ≤ 7
  least_low (and_g is) = omega arith
  least_low (or_g is) = omega arith
  least_low (least_g k is) = go (eqb k 0 || ltb (length (distinct_inputs is)) k)
    where
      go : (a : Bool) → cond a 5 0 ≤ 7
      go true = omega arith
      go false = omega arith

  gate_low : (g all : ℕ) (x : Gate) → gate_breaks limits g all x ≤ 7
  gate_low g all x = go (too_many limits g all (length (inputs_to x))) (least_low x)
    where
      go : (a : Bool) {m : ℕ} → m ≤ 7 → cond a 4 m ≤ 7
      go true h = omega arith
      go false h = h

  gates_low : (g all : ℕ) (l : List Gate) → gates_break limits g all l ≤ 7
  unfolding gates_break
  gates_low g all [] = omega arith
  gates_low g all (x ∷ l) = or_else_low (gate_breaks limits g all x) _ (gate_low g all x) (gates_low (suc g) (all + length (inputs_to x)) l)

  pub broken_low : (t : Tree) → broken limits t ≤ 7
  unfolding broken
  broken_low t = or_else_low (events_break limits 0 t.chances) (gates_break limits 0 0 t.gates) (events_low 0 t.chances) (gates_low 0 0 t.gates)
