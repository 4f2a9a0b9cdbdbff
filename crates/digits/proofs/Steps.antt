-- Multiplying digit by digit, and comparing from the top.
-- Assumes nothing.
use mathlib.Core.Path.{◌≡◌, refl, sym, ap, ap₂, ◌∙◌, subst}
use mathlib.Core.List.{List, [], ◌∷◌}
use Prim.Native.Nat.{ℕ, zero, suc, ◌+◌, ◌-◌, ◌*◌, ◌/◌, ◌%◌, ◌^◌, ◌≤◌, ◌<◌}
use native.Mathlib.Nat.{div-add-mod, mod-lt, div-lt_iff_lt-mul, mul-le-mul_left, mul-le-mul_right, suc-mul, mul-suc, pow-zero, pow-suc}
use native.Mathlib.Decide.{ℕ_discrete}
use native.Mathlib.Numerals.{add-one}
use native.Mathlib.Omega.{arith}
use lib.ListN.{length, get_or, set, take, drop, replicate, length-set}
use lib.Seq.{get_or-set_same, get_or-set_other}
use Rattle.paper.specs.Limits.{billion}
use Rattle.digits.specs.Digits.{value, number, Number}
use Rattle.digits.proofs.Value.{value_take, value_next, value_set, value_split, value_drop, value_below, value_zeros}

-- ---- one digit set

abbrev pub zeros : ℕ → List ℕ
zeros m = replicate m 0

get_d_zeros : (m j : ℕ) → get_or (zeros m) j 0 ≡ 0
get_d_zeros zero j = refl
get_d_zeros (suc m) zero = refl
get_d_zeros (suc m) (suc j) = get_d_zeros m j

module _ (D : ℕ) (l : List ℕ) (k d : ℕ) (h : k < length l) where
  set_small : ((j : ℕ) → get_or l j 0 < D) → d < D → (j : ℕ) → get_or (set l k d) j 0 < D
  set_small s t j = go (ℕ_discrete j k)
    where
      go : Dec (j ≡ k) → get_or (set l k d) j 0 < D
      go (yes q) = let e : get_or (set l k d) j 0 ≡ d = ap (λ i. get_or (set l k d) i 0) q ∙ get_or-set_same l k d 0 h in omega arith
      go (no q) = let e = get_or-set_other l k j d 0 q in let b = s j in omega arith

  set_behind : {m : ℕ} → m ≤ k → ((j : ℕ) → k + 1 ≤ j → get_or l j 0 ≡ 0) → (j : ℕ) → k + 1 ≤ j → get_or (set l k d) j 0 ≡ 0
  set_behind g z j i = get_or-set_other l k j d 0 (λ q. omega arith) ∙ z j i

-- ---- a digit alone

value_none : (m k : ℕ) → value billion (take k (zeros m)) ≡ 0
value_none m zero = refl
value_none zero (suc k) = refl
value_none (suc m) (suc k) = rw (value_none m k) (omega arith)

pub place_number : (m k d : ℕ) → k < length (zeros m) → d < billion → (number (set (zeros m) k d) ≡ d * billion ^ k) × Number (set (zeros m) k d) (k + 1)
unfolding number
place_number m k d h s = (
  value_take billion (set (zeros m) k d) (suc k) (λ j g. set_behind billion (zeros m) k d h {m = k} (omega arith) (λ i _. get_d_zeros m i) j (omega arith))
      ∙ value_set billion (zeros m) k d h
      ∙ zero_plus (value billion (take k (zeros m))) (billion ^ k) (value_none m k),
  record {
    small = set_small billion (zeros m) k d h (λ j. let e = get_d_zeros m j in omega arith) s;
    behind = set_behind billion (zeros m) k d h {m = k} (omega arith) (λ i _. get_d_zeros m i);
  },
)
  where
    zero_plus : (v p : ℕ) → v ≡ 0 → v + p * d ≡ d * p
    zero_plus v p e = omega arith

-- ---- times x

-- where the loop is: the first k digits are those of the product, c is carried, and the others are as they were
pub record Scaled (ds₀ ds : List ℕ) (used x k c : ℕ) : Type 0 where
  pub long : length ds ≡ length ds₀
  pub within : k ≤ used
  pub is : value billion (take k ds) + billion ^ k * c ≡ value billion (take k ds₀) * x
  pub same : (j : ℕ) → k ≤ j → get_or ds j 0 ≡ get_or ds₀ j 0
  pub small : (j : ℕ) → get_or ds j 0 < billion
  pub carried : c < billion

pub scaled_start : {ds : List ℕ} {used : ℕ} (x : ℕ) → Number ds used → Scaled ds ds used x 0 0
scaled_start x nb = record { long = refl; within = omega arith; is = omega arith; same = λ j h. refl; small = nb.small; carried = omega arith }

module _ (D : ℕ) where
  -- one digit d, on plain numbers: p is its power, v and v₀ the digits below it
  scale_step : (v v₀ p r c c' d x : ℕ) → v + p * c ≡ v₀ * x → D * c' + r ≡ d * x + c → v + p * r + p * D * c' ≡ (v₀ + p * d) * x
  scale_step v v₀ p r c c' d x h e = omega (arith, ap (λ j. p * j) e)

  -- no product of a digit and a chance, with what was carried, is D² or more
  carry_step : (v : ℕ) → 0 < D → v < D * D → v / D < D
  carry_step v D0 h = (div-lt_iff_lt-mul D0).1 h

  pub small_step : (d x c : ℕ) → d < D → x ≤ D → c < D → d * x + c < D * D
  small_step d x c h k l = omega (arith, mul-le-mul_left d k, mul-le-mul_right D h, suc-mul d D)

module _ {ds₀ ds : List ℕ} {used x k c : ℕ} (w : Scaled ds₀ ds used x k c) (room : used < length ds₀) (chance : x ≤ billion) where
  pub scaled_small : get_or ds k 0 * x + c < billion * billion
  scaled_small = small_step billion (get_or ds k 0) x c (w.small k) chance w.carried

  pub scaled_more : k < used → Scaled ds₀ (set ds k ((get_or ds k 0 * x + c) % billion)) used x (k + 1) ((get_or ds k 0 * x + c) / billion)
  scaled_more h =
      let v : ℕ = get_or ds k 0 * x + c in
      let l = w.long in
      let q : k + 1 ≡ suc k = add-one k in
      let a = value_set billion ds k (v % billion) (omega arith) in
      let b = value_next billion ds₀ k (omega arith) in
      let r : get_or ds k 0 ≡ get_or ds₀ k 0 = w.same k (omega arith) in
      record {
        long = length-set ds k (v % billion) ∙ w.long;
        within = omega arith;
        is = rw (q, a, b, pow-suc billion k, ← r) (scale_step billion (value billion (take k ds)) (value billion (take k ds₀)) (billion ^ k) (v % billion) c (v / billion) (get_or ds k 0) x w.is (div-add-mod v billion));
        same = λ j g. get_or-set_other ds k j (v % billion) 0 (λ z. omega arith) ∙ w.same j (omega arith);
        small = set_small billion ds k (v % billion) (omega arith) w.small (mod-lt v (omega arith));
        carried = carry_step billion v (omega arith) scaled_small;
      }

  -- the last digit is what is carried out
  pub scaled_end : Number ds₀ used → used ≤ k → (number (set ds used c) ≡ number ds₀ * x) × Number (set ds used c) (used + 1)
  unfolding number
  scaled_end nb g =
      let l = w.long in
      let i = w.within in
      let e : used ≡ k = omega arith in
      let p : used < length ds = omega arith in
      let z : (j : ℕ) → used + 1 ≤ j → get_or (set ds used c) j 0 ≡ 0 = set_behind billion ds used c p {m = used} (omega arith) (λ j f. w.same j (omega arith) ∙ nb.behind j (omega arith)) in (
        value_take billion (set ds used c) (suc used) (λ j f. z j (omega arith))
            ∙ value_set billion ds used c p
            ∙ subst (λ j. value billion (take j ds) + billion ^ j * c ≡ value billion (take j ds₀) * x) (sym e) w.is
            ∙ ap (λ v. v * x) (sym (value_take billion ds₀ used nb.behind)),
        record { small = set_small billion ds used c p w.small w.carried; behind = z },
      )

-- ---- times D, so many times

pub lift_start : (v : ℕ) → v ≡ v * billion ^ 0
lift_start v = rw (pow-zero billion) (omega arith)

pub lift_more : (v₀ k : ℕ) {v v' : ℕ} → v ≡ v₀ * billion ^ k → v' ≡ v * billion → v' ≡ v₀ * billion ^ (k + 1)
lift_more v₀ k h e = let q : k + 1 ≡ suc k = add-one k in e ∙ ap (λ j. j * billion) h ∙ rw (q, pow-suc billion k) (omega arith)

pub lift_end : (v₀ used : ℕ) {v k times : ℕ} {ds : List ℕ} → times ≤ k → k ≤ times → v ≡ v₀ * billion ^ k → Number ds (used + k) → (v ≡ v₀ * billion ^ times) × Number ds (used + times)
lift_end v₀ used {v} {k} {times} {ds} h g e nb = let q : k ≡ times = omega arith in (subst (λ j. v ≡ v₀ * billion ^ j) q e, subst (λ j. Number ds (used + j)) q nb)

-- more digits than are used
pub number_up : {ds : List ℕ} {m k : ℕ} → Number ds m → m ≤ k → Number ds k
number_up nb h = record { small = nb.small; behind = λ j g. nb.behind j (omega arith) }

-- ---- from the top

-- the digits from k on are the same
abbrev pub Agree : List ℕ → List ℕ → ℕ → Type 0
Agree xs ys k = value billion (drop k xs) ≡ value billion (drop k ys)

pub agree_start : {xs ys : List ℕ} {used : ℕ} → Number xs used → Number ys used → Agree xs ys used
agree_start {xs} {ys} {used} a b = none xs used a.behind ∙ sym (none ys used b.behind)
  where
    none : (l : List ℕ) (k : ℕ) → ((j : ℕ) → k ≤ j → get_or l j 0 ≡ 0) → value billion (drop k l) ≡ 0
    none l zero h = value_zeros billion l (λ j. h j (omega arith))
    none [] (suc k) h = refl
    none (x ∷ l) (suc k) h = none l k (λ j g. h (suc j) (omega arith))

agree_more : (xs ys : List ℕ) (k : ℕ) → Agree xs ys (suc k) → get_or xs k 0 ≡ get_or ys k 0 → Agree xs ys k
agree_more xs ys k g e = value_drop billion xs k ∙ ap₂ (λ d v. d + billion * v) e g ∙ sym (value_drop billion ys k)

-- the digit below place k is the same too
pub agree_again : (xs ys : List ℕ) (k : ℕ) → 0 < k → Agree xs ys k → get_or xs (k - 1) 0 ≡ get_or ys (k - 1) 0 → Agree xs ys (k - 1)
agree_again xs ys k h g e = let q : k ≡ suc (k - 1) = omega arith in agree_more xs ys (k - 1) (subst (Agree xs ys) q g) e

pub agree_all : (xs ys : List ℕ) {k : ℕ} → k ≤ 0 → Agree xs ys k → number xs ≡ number ys
unfolding number
agree_all xs ys {k} h g = let q : k ≡ 0 = omega arith in subst (Agree xs ys) q g

-- the first digit that differs decides, on plain numbers
decide : (D p x y v lx ly : ℕ) → lx < p → x < y → lx + p * (x + D * v) < ly + p * (y + D * v)
decide D p x y v lx ly h l = omega (arith, mul-le-mul_left p l, mul-suc p x)

agree_differ : (xs ys : List ℕ) (k : ℕ) → ((j : ℕ) → get_or xs j 0 < billion) → Agree xs ys (suc k) → get_or xs k 0 < get_or ys k 0 → number xs < number ys
unfolding number
agree_differ xs ys k small g h = rw (value_split billion xs k, value_split billion ys k, value_drop billion xs k, value_drop billion ys k, g)
    (decide billion (billion ^ k) (get_or xs k 0) (get_or ys k 0) (value billion (drop (suc k) ys)) (value billion (take k xs)) (value billion (take k ys)) (value_below billion xs k small) h)

pub agree_less : {xs ys : List ℕ} {used : ℕ} → Number xs used → Number ys used → (k : ℕ) → 0 < k → Agree xs ys k → get_or xs (k - 1) 0 < get_or ys (k - 1) 0 → number xs < number ys
agree_less {xs} {ys} a b k h g l = let q : k ≡ suc (k - 1) = omega arith in agree_differ xs ys (k - 1) a.small (subst (Agree xs ys) q g) l
