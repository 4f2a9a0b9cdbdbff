-- The marked numbers are moved to the front of their area, in rising order: no number is overwritten before it is read.
-- Assumes nothing.
use mathlib.Core.Path.{◌≡◌, refl, sym, ap, ◌∙◌, subst, subst₂}
use mathlib.Core.Logic.{◌≢◌, ◌⊎◌, inl, inr}
use mathlib.Core.List.{List}
use Prim.Native.Nat.{ℕ, ◌+◌, ◌<◌, ◌≤◌, max}
use native.Mathlib.Decide.{ℕ_discrete}
use native.Mathlib.Omega.{arith}
use lib.ListN.{length, get_or, set, take, length-set}
use lib.Seq.{get_or-set_same, get_or-set_other, length-take-le, get_or-take}
use Rattle.store.proofs.Denotes.{below_or_not}
use Rattle.without.specs.Reading.{Held}
use Rattle.cuts.specs.Reach.{Reached, Marked}
use Rattle.cuts.proofs.Marks.{reached_low}
use Rattle.sizes.specs.Reach.{Takes, Place, Collecting, Listed}

-- ---- one number

pub takes_marked : {i m : ℕ} {R : List ℕ} → get_or R i 0 ≡ 1 → Takes i m R (set R m i) (m + 1)
takes_marked e = record { marked = λ _. (refl, refl); skipped = λ n. absurd (n e) }

pub takes_none : {i m : ℕ} {R : List ℕ} → get_or R i 0 ≢ 1 → Takes i m R R m
takes_none n = record { marked = λ e. absurd (n e); skipped = λ _. (refl, refl) }

-- ---- the way up

pub collecting_start : (K : List ℕ) → Collecting K K 0 2
collecting_start K = record {
  short = omega arith;
  node = λ p l. absurd (omega arith);
  below = λ p l. absurd (omega arith);
  marked = λ p l. absurd (omega arith);
  rising = λ p q a b. absurd (omega arith);
  all = λ j a b e. absurd (omega arith);
  behind = λ j l. refl;
  long = refl;
}

module _ {K R : List ℕ} {m i : ℕ} (col : Collecting K R m i) (long : i < length R) where
  -- number i is not marked
  skip : get_or R i 0 ≢ 1 → Collecting K R m (i + 1)
  skip n = record {
    short = let h = col.short in omega arith;
    node = col.node;
    below = λ p l. let h = col.below p l in omega arith;
    marked = col.marked;
    rising = col.rising;
    all = λ j a b e. col.all j a (lower j b e (ℕ_discrete j i)) e;
    behind = λ j l. col.behind j (omega arith);
    long = col.long;
  }
    where
      lower : (j : ℕ) → j < i + 1 → get_or K j 0 ≡ 1 → Dec (j ≡ i) → j < i
      lower j b e (yes q) = absurd (n (col.behind i (omega arith) ∙ ap (λ x. get_or K x 0) (sym q) ∙ e))
      lower j b e (no q) = omega arith

  -- number i goes to place m, which lies before it
  keep : get_or R i 0 ≡ 1 → Collecting K (set R m i) (m + 1) (i + 1)
  keep e = record {
    short = let h = col.short in omega arith;
    node = λ p l. let h = col.short in at (λ p x. 2 ≤ x) p l (ℕ_discrete p m) (λ _. omega arith) (λ b. col.node p b);
    below = λ p l. at (λ p x. x < i + 1) p l (ℕ_discrete p m) (λ _. omega arith) (λ b. let h = col.below p b in omega arith);
    marked = λ p l. at (λ p x. get_or K x 0 ≡ 1) p l (ℕ_discrete p m) (λ _. sym (col.behind i (omega arith)) ∙ e) (λ b. col.marked p b);
    rising = λ p q a b. up p q a b (ℕ_discrete q m);
    all = λ j a b f. found j a b f (ℕ_discrete j i);
    behind = λ j l. let h = col.short in get_or-set_other R m j i 0 (λ z. omega (arith, z, h, l)) ∙ col.behind j (omega arith);
    long = length-set R m i ∙ col.long;
  }
    where
      room : m < length R
      room = let h = col.short in omega arith

      new : get_or (set R m i) m 0 ≡ i
      new = get_or-set_same R m i 0 room

      old : (p : ℕ) → p < m → get_or (set R m i) p 0 ≡ get_or R p 0
      old p l = get_or-set_other R m p i 0 (λ z. omega (arith, z, l))

      at : (P : ℕ → ℕ → Type 0) (p : ℕ) → p < m + 1 → Dec (p ≡ m) → (Unit {0} → P m i) → (p < m → P p (get_or R p 0)) → P p (get_or (set R m i) p 0)
      at P p l (yes q) x y = subst (λ z. P z (get_or (set R m i) z 0)) (sym q) (subst (P m) (sym new) (x tt))
      at P p l (no q) x y = subst (P p) (sym (old p (omega arith))) (y (omega arith))

      up : (p q : ℕ) → p < q → q < m + 1 → Dec (q ≡ m) → get_or (set R m i) p 0 < get_or (set R m i) q 0
      up p q a b (yes z) =
          let h = col.below p (omega arith) in
          let x = old p (omega arith) in
          let y : get_or (set R m i) q 0 ≡ i = ap (λ z. get_or (set R m i) z 0) z ∙ new in
          omega (arith, h, x, y)
      up p q a b (no z) =
          let h = col.rising p q a (omega arith) in
          let x = old p (omega arith) in
          let y = old q (omega arith) in
          omega (arith, h, x, y)

      found : (j : ℕ) → 2 ≤ j → j < i + 1 → get_or K j 0 ≡ 1 → Dec (j ≡ i) → Place (set R m i) (m + 1) j
      found j a b f (yes z) = record { at = m; within = omega arith; is = new ∙ sym z }
      found j a b f (no z) =
          let w = col.all j a (omega arith) f in
          let l = w.within in
          record { at = w.at; within = omega arith; is = old w.at l ∙ w.is }

  pub collecting_step : {R' : List ℕ} {m' : ℕ} → Takes i m R R' m' → Collecting K R' m' (i + 1)
  collecting_step {R'} {m'} t = go (ℕ_discrete (get_or R i 0) 1)
    where
      go : Dec (get_or R i 0 ≡ 1) → Collecting K R' m' (i + 1)
      go (yes e) = let w = t.marked e in subst₂ (λ x y. Collecting K x y (i + 1)) (sym w.0) (sym w.1) (keep e)
      go (no n) = let w = t.skipped n in subst₂ (λ x y. Collecting K x y (i + 1)) (sym w.0) (sym w.1) (skip n)

-- behind the root
pub collecting_end : {K R : List ℕ} {m i root : ℕ} → Collecting K R m i → root < i → i ≤ max 2 (root + 1) → Collecting K R m (max 2 (root + 1))
collecting_end {K} {R} {m} {i} {root} c a b = let h = c.short in let q : i ≡ max 2 (root + 1) = omega arith in subst (Collecting K R m) q c

-- ---- the list

-- what is marked is what the root reaches
pub listed : {T : List ℕ} {root : ℕ} {K R : List ℕ} {m : ℕ} → Held T root → Marked T root K → Collecting K R m (max 2 (root + 1)) → root < length K → Listed T root R m
listed {T} {root} {K} {R} {m} held marks c l = record {
  short = let h = c.short in let g = c.long in omega arith;
  node = c.node;
  reached = λ p b. marks.reached (get_or R p 0) (c.marked p b);
  rising = c.rising;
  all = λ j r two. let h = reached_low held r in c.all j two (omega arith) (marks.all j r);
}

module _ {T : List ℕ} {root : ℕ} {R : List ℕ} {m : ℕ} (ls : Listed T root R m) where
  -- a lower node stands earlier
  pub earlier : (p q : ℕ) → p < m → q < m → get_or R q 0 < get_or R p 0 → q < p
  earlier p q a b h = go (below_or_not q p)
    where
      go : (q < p) ⊎ (p ≤ q) → q < p
      go (inl l) = l
      go (inr l) = same (ℕ_discrete p q)
        where
          same : Dec (p ≡ q) → q < p
          same (yes e) = let g = ap (λ x. get_or R x 0) e in absurd (omega (arith, h, g))
          same (no n) = let g = ls.rising p q (omega arith) b in absurd (omega (arith, h, g))

-- the list alone
pub listed_alone : {T : List ℕ} {root : ℕ} {R : List ℕ} {m : ℕ} → Listed T root R m → Listed T root (take m R) (length (take m R))
listed_alone {T} {root} {R} {m} ls = subst (Listed T root (take m R)) (sym (length-take-le m R ls.short)) (record {
  short = let e = length-take-le m R ls.short in omega arith;
  node = λ p l. subst (λ x. 2 ≤ x) (same p l) (ls.node p l);
  reached = λ p l. subst (Reached T root) (same p l) (ls.reached p l);
  rising = λ p q a b. let h = ls.rising p q a b in let x = same p (omega arith) in let y = same q b in omega (arith, h, x, y);
  all = λ j r two. let w = ls.all j r two in record { at = w.at; within = w.within; is = sym (same w.at w.within) ∙ w.is };
})
  where
    same : (p : ℕ) → p < m → get_or R p 0 ≡ get_or (take m R) p 0
    same p l = sym (get_or-take m R p 0 l)
