-- The memo: what it says is right, and stays right where a right result is kept and where P widens.
-- Assumes nothing.
use mathlib.Core.Path.{◌≡◌, refl, sym, subst, ◌∙◌}
use mathlib.Core.Logic.{◌≢◌, ◌⊎◌, inl, inr}
use mathlib.Core.List.{List}
use Prim.Native.Nat.{ℕ, ◌+◌, ◌-◌, ◌*◌, ◌/◌, ◌%◌, ◌<◌, ◌≤◌}
use native.Mathlib.Decide.{ℕ_discrete}
use native.Mathlib.Omega.{arith}
use lib.ListN.{length, get_or, set, take, replicate, length-set, length-replicate}
use lib.Seq.{get_or-set_same, get_or-set_other, length-take-le}
use Rattle.store.specs.Memo.{Memo, Places, Used, Quad, Hit, Place, There, Keeps}

-- ---- for callers

-- the part of a memo that is used, and a memo of one place
pub places_used : (M : List ℕ) (n : ℕ) → Used (length M) n → 4 ≤ n → Places (take n M)
places_used M n u l =
    let q = length-take-le n M u.within in
    let few = u.few in
    record { some = omega arith; few = omega arith; whole = rw q u.whole }

pub places_one : Places (replicate 4 0)
places_one = let q = length-replicate {A = ℕ} 4 0 in record { some = omega arith; few = omega arith; whole = refl }

-- places depend on the length
pub places_kept : {M M' : List ℕ} → length M' ≡ length M → Places M → Places M'
places_kept q p = let a = p.some in let b = p.few in let c = p.whole in record { some = omega arith; few = omega arith; whole = rw q c }

pub memo_hit : {P : ℕ → ℕ → ℕ → ℕ → Type 0} {M : List ℕ} {op f g r : ℕ} → Memo P M → 1 ≤ op → Hit M op f g r → P op f g r
memo_hit m o h = let q = h.quad in rw (← q.is_op, ← q.is_f, ← q.is_g, ← q.is_r) (m.each h.slot (λ z. let y = q.is_op in omega arith))

-- a right result is kept
pub memo_keep : {P : ℕ → ℕ → ℕ → ℕ → Type 0} {M : List ℕ} {op f g r : ℕ} {M' : List ℕ} → Memo P M → P op f g r → Keeps M op f g r M' → Memo P M'
memo_keep {P} {M} {op} {f} {g} {r} {M'} m p k = record { places = places_kept k.long m.places; each = λ j n. go j n (k.each j) }
  where
    go : (j : ℕ) → (get_or M' (4 * j) 0 ≡ 0 → ⊥) → Quad M' j (get_or M (4 * j) 0) (get_or M (4 * j + 1) 0) (get_or M (4 * j + 2) 0) (get_or M (4 * j + 3) 0) ⊎ Quad M' j op f g r
        → P (get_or M' (4 * j) 0) (get_or M' (4 * j + 1) 0) (get_or M' (4 * j + 2) 0) (get_or M' (4 * j + 3) 0)
    go j n (inl q) = rw (q.is_op, q.is_f, q.is_g, q.is_r) (m.each j (λ z. n (q.is_op ∙ z)))
    go j n (inr q) = rw (q.is_op, q.is_f, q.is_g, q.is_r) p

-- what follows from P's may stand in P's place
pub memo_map : {P Q : ℕ → ℕ → ℕ → ℕ → Type 0} {M : List ℕ} → ((op f g r : ℕ) → P op f g r → Q op f g r) → Memo P M → Memo Q M
memo_map {M = M} u m = record { places = m.places; each = λ j n. u (get_or M (4 * j) 0) (get_or M (4 * j + 1) 0) (get_or M (4 * j + 2) 0) (get_or M (4 * j + 3) 0) (m.each j n) }

-- ---- places

pub place_at : {M : List ℕ} {s : ℕ} → Places M → s < length M → Place M (s - s % 4)
place_at {M} {s} p l = let w = p.whole in record { slot = s / 4; is = omega arith; fits = omega arith }

-- a place stays one
pub place_kept : {M M' : List ℕ} {at : ℕ} → length M' ≡ length M → Place M at → Place M' at
place_kept q p = record { slot = p.slot; is = p.is; fits = let z = p.fits in omega arith }

-- what stands at a place where the operation was found
pub there_hit : {M : List ℕ} {at op f g : ℕ} → Place M at → There M at op f g → Hit M op f g (get_or M (at + 3) 0)
there_hit {M} {at} {op} {f} {g} p t = subst (λ a. There M a op f g → Hit M op f g (get_or M (a + 3) 0)) (sym p.is)
    (λ t. record { slot = p.slot; quad = record { is_op = t.is_op; is_f = t.is_f; is_g = t.is_g; is_r = refl } }) t

-- ---- four numbers are written

module _ (M : List ℕ) (k op f g r : ℕ) (fits : 4 * k + 4 ≤ length M) where
  abbrev one : List ℕ
  one = set M (4 * k) op

  abbrev two : List ℕ
  two = set one (4 * k + 1) f

  abbrev three : List ℕ
  three = set two (4 * k + 2) g

  abbrev four : List ℕ
  four = set three (4 * k + 3) r

  here : Quad four k op f g r
  here = record {
    is_op = get_or-set_other three (4 * k + 3) (4 * k) r 0 (omega arith) ∙ get_or-set_other two (4 * k + 2) (4 * k) g 0 (omega arith) ∙ get_or-set_other one (4 * k + 1) (4 * k) f 0 (omega arith) ∙ get_or-set_same M (4 * k) op 0 (omega arith);
    is_f = get_or-set_other three (4 * k + 3) (4 * k + 1) r 0 (omega arith) ∙ get_or-set_other two (4 * k + 2) (4 * k + 1) g 0 (omega arith) ∙ get_or-set_same one (4 * k + 1) f 0 (simp length-set (omega arith));
    is_g = get_or-set_other three (4 * k + 3) (4 * k + 2) r 0 (omega arith) ∙ get_or-set_same two (4 * k + 2) g 0 (simp length-set (omega arith));
    is_r = get_or-set_same three (4 * k + 3) r 0 (simp length-set (omega arith));
  }

  elsewhere : (p : ℕ) → p ≢ 4 * k → p ≢ 4 * k + 1 → p ≢ 4 * k + 2 → p ≢ 4 * k + 3 → get_or four p 0 ≡ get_or M p 0
  elsewhere p x y z w =
      get_or-set_other three (4 * k + 3) p r 0 w ∙ get_or-set_other two (4 * k + 2) p g 0 z ∙ get_or-set_other one (4 * k + 1) p f 0 y ∙ get_or-set_other M (4 * k) p op 0 x

  other : (j : ℕ) → j ≢ k → Quad four j (get_or M (4 * j) 0) (get_or M (4 * j + 1) 0) (get_or M (4 * j + 2) 0) (get_or M (4 * j + 3) 0)
  other j n = record {
    is_op = elsewhere (4 * j) (omega arith) (omega arith) (omega arith) (omega arith);
    is_f = elsewhere (4 * j + 1) (omega arith) (omega arith) (omega arith) (omega arith);
    is_g = elsewhere (4 * j + 2) (omega arith) (omega arith) (omega arith) (omega arith);
    is_r = elsewhere (4 * j + 3) (omega arith) (omega arith) (omega arith) (omega arith);
  }

  keeps_slot : Keeps M op f g r four
  keeps_slot = record { long = simp length-set; each = λ j. go j (ℕ_discrete j k) }
    where
      go : (j : ℕ) → Dec (j ≡ k) → Quad four j (get_or M (4 * j) 0) (get_or M (4 * j + 1) 0) (get_or M (4 * j + 2) 0) (get_or M (4 * j + 3) 0) ⊎ Quad four j op f g r
      go j (yes q) = inr (subst (λ i. Quad four i op f g r) (sym q) here)
      go j (no n) = inl (other j n)

pub keeps_at : (M : List ℕ) (at op f g r : ℕ) → Place M at → Keeps M op f g r (set (set (set (set M at op) (at + 1) f) (at + 2) g) (at + 3) r)
keeps_at M at op f g r p = subst (λ a. Keeps M op f g r (set (set (set (set M a op) (a + 1) f) (a + 2) g) (a + 3) r)) (sym p.is)
    (keeps_slot M p.slot op f g r (let z = p.fits in let y = p.is in omega arith))
