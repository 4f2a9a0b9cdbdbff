-- Numbers: their digits, their values, and values capped at 2^32 - 1.
-- Assumes nothing.
use mathlib.Core.Path.{◌≡◌, refl, sym, ap, ◌∙◌, subst}
use mathlib.Core.Logic.{◌⊎◌, inl, inr}
use mathlib.Core.Bool.{Bool, true, false, ◌&&◌, ◌||◌}
use mathlib.Core.List.{List, [], ◌∷◌}
use Prim.Native.Nat.{ℕ, ◌+◌, ◌-◌, ◌*◌, ◌<◌, ◌≤◌, min}
use native.Mathlib.Decide.{dec_le}
use native.Mathlib.Omega.{arith}
use borrow.Author.Tests.{leb-true}
use lib.Dec.{leb}
use Rattle.std.proofs.Common.{add-zero}
use lib.ListN.{get_or, length, take, drop, length-drop}
use lib.Seq.{length-take-le, get_or-take, get_or-drop}
use Rattle.paper.specs.Bytes.{digit, lead, same}
use Rattle.paper.specs.Lists.{every}
use Rattle.paper.specs.Grammar.{is_number, value_on, value}
use Rattle.lines.specs.Reading.{Ends, Capped}
use Rattle.lines.proofs.Leads.{lead_every, ends_here, ends_front, ends_next, ends_none, slice_length, slice_inside, slice_byte}

-- ---- which are numbers

pub number_none : is_number [] ≡ false
unfolding is_number
number_none = refl

pub number_other : (w : List ℕ) → every digit w ≡ false → is_number w ≡ false
unfolding is_number
number_other [] h = refl
number_other (d ∷ w) h = rw h refl

module _ {s : List ℕ} {i e : ℕ} (n : Ends digit s i e) where
  pub number_empty : e ≤ i → is_number (lead digit (drop i s)) ≡ false
  number_empty h = rw (ends_none n h) number_none

  shape : i < e → is_number (lead digit (drop i s)) ≡ (leb 49 (get_or s i 0) || same (lead digit (drop (i + 1) s)) [])
  unfolding is_number
  shape h = rw (ends_front n h, rw (ends_front n h) at (lead_every digit (drop i s))) refl

  pub number_one : e - i ≡ 1 → is_number (lead digit (drop i s)) ≡ true
  unfolding same
  number_one h =
      let k : i < e = omega arith in
      shape k ∙ rw (ends_none (ends_next n k) (omega arith)) (go (leb 49 (get_or s i 0)))
    where
      go : (t : Bool) → (t || true) ≡ true
      go true = refl
      go false = refl

  pub number_more : i < e → (e - i ≡ 1 → ⊥) → is_number (lead digit (drop i s)) ≡ leb 49 (get_or s i 0)
  unfolding same
  number_more h q =
      let k : i + 1 < e = omega arith in
      shape h ∙ rw (ends_front (ends_next n h) k) (go (leb 49 (get_or s i 0)))
    where
      go : (t : Bool) → (t || false) ≡ t
      go true = refl
      go false = refl

-- ---- values

capped_min : {x r : ℕ} → r ≡ min x 4294967295 → Capped x r
capped_min {x} {r} h = record { low = omega arith; is = go (dec_le x 4294967295) }
  where
    go : Dec (x ≤ 4294967295) → (r ≡ x) ⊎ ((r ≡ 4294967295) × (r ≤ x))
    go (yes k) = inl (omega arith)
    go (no k) = inr (omega arith, omega arith)

pub capped_step : {n m r : ℕ} (d : ℕ) → Capped n m → Capped (10 * m + d) r → Capped (10 * n + d) r
capped_step {n} {m} {r} d a b = record { low = b.low; is = go a.is b.is }
  where
    go : (m ≡ n) ⊎ ((m ≡ 4294967295) × (m ≤ n)) → (r ≡ 10 * m + d) ⊎ ((r ≡ 4294967295) × (r ≤ 10 * m + d)) → (r ≡ 10 * n + d) ⊎ ((r ≡ 4294967295) × (r ≤ 10 * n + d))
    go (inl p) (inl q) = inl (omega arith)
    go (inl p) (inr q) = inr (q.0, omega (arith, q.1))
    go (inr p) (inl q) = absurd (omega (arith, b.low, p.0))
    go (inr p) (inr q) = inr (q.0, omega (arith, q.0, p.0, p.1))

-- the loop at place j with the number m
pub record Valued (s : List ℕ) (i e j m : ℕ) : Type 0 where
  pub ends : Ends digit s j e
  pub number : ℕ
  pub capped : Capped number m
  pub same : value (lead digit (drop i s)) ≡ value_on number (lead digit (drop j s))

pub valued_start : {s : List ℕ} {i e : ℕ} → Ends digit s i e → Valued s i e (i + 0) 0
unfolding value
valued_start n = rw add-zero record { ends = n; number = 0; capped = record { low = omega arith; is = inl refl }; same = refl }

pub digit_low : (b : ℕ) → digit b ≡ true → 48 ≤ b
unfolding digit
digit_low b h = leb-true 48 b (go (leb 48 b) (leb b 57) h)
  where
    go : (t u : Bool) → (t && u) ≡ true → t ≡ true
    go true u e = refl
    go false u e = e

-- the digits as a slice: its byte k
module _ {s : List ℕ} {i e k m : ℕ} (n : Ends digit s i e) (v : Valued s i e (i + k) m) where
  module _ (h : k < length (take (e - i) (drop i s))) where
    pub valued_digit : 48 ≤ get_or (take (e - i) (drop i s)) k 0
    valued_digit = rw (slice_byte n h) (digit_low (get_or s (i + k) 0) (ends_here v.ends (slice_inside n h)))

    -- one digit more, in arithmetic that stays at 2^32 - 1
    pub valued_next : {w d r : ℕ} → w ≡ min (m * 10) 4294967295 → d ≡ get_or (take (e - i) (drop i s)) k 0 - 48 → r ≡ min (w + d) 4294967295 → Valued s i e (i + (k + 1)) r
    valued_next {w} {d} {r} p q c =
        let digit : d ≡ get_or s (i + k) 0 - 48 = q ∙ ap (λ b. b - 48) (slice_byte n h) in
        let place : i + k + 1 ≡ i + (k + 1) = omega arith in
        subst (λ j. Valued s i e j r) place record {
          ends = ends_next v.ends (slice_inside n h);
          number = 10 * v.number + (get_or s (i + k) 0 - 48);
          capped = capped_step (get_or s (i + k) 0 - 48) v.capped (capped_min (omega arith));
          same = v.same ∙ ap (value_on v.number) (ends_front v.ends (slice_inside n h));
        }

  pub valued_end : length (take (e - i) (drop i s)) ≤ k → Capped (value (lead digit (drop i s))) m
  valued_end h = subst (λ k. Capped k m) (sym (v.same ∙ ap (value_on v.number) (ends_none v.ends (omega (arith, slice_length n))))) v.capped

-- THE LAW of capped numbers: they compare with any limit below 2^32 - 1 as the numbers do
module _ {n r : ℕ} (c : Capped n r) where
  pub capped_within : (limit : ℕ) → limit < 4294967295 → r ≤ limit → n ≤ limit
  capped_within limit h k = go c.is
    where
      go : (r ≡ n) ⊎ ((r ≡ 4294967295) × (r ≤ n)) → n ≤ limit
      go (inl p) = omega arith
      go (inr p) = absurd (omega (arith, p.0))

  pub capped_beyond : (limit : ℕ) → limit < 4294967295 → limit < r → limit < n
  capped_beyond limit h k = go c.is
    where
      go : (r ≡ n) ⊎ ((r ≡ 4294967295) × (r ≤ n)) → limit < n
      go (inl p) = omega arith
      go (inr p) = omega (arith, p.1)

  -- and below it they are the numbers
  pub capped_exact : r < 4294967295 → r ≡ n
  capped_exact h = go c.is
    where
      go : (r ≡ n) ⊎ ((r ≡ 4294967295) × (r ≤ n)) → r ≡ n
      go (inl p) = p
      go (inr p) = absurd (omega (arith, p.0))
