-- Sizes and products of sets, the fewest members of a family's sets, and its likeliest set.
-- Assumes nothing.
use mathlib.Core.Path.{◌≡◌, refl, sym, ap, ap₂, ◌∙◌}
use mathlib.Core.Logic.{◌⊎◌, inl, inr}
use mathlib.Core.Bool.{Bool, true, false, cond, ◌||◌, true≢false}
use mathlib.Core.List.{map}
use Prim.Native.Nat.{ℕ, zero, suc, ◌+◌, ◌*◌, ◌^◌, ◌≤◌, ◌<◌, min}
use native.Mathlib.Nat.{mul-le-mul_left, mul-le-mul_right, le_of_mul-le-mul_right, pow-zero, pow-suc, mul-pos, min-le_left, min-le_right, min-eq_left, min-eq_right}
use native.Mathlib.Omega.{arith}
use lib.Dec.{eqb, leb}
use borrow.Author.Tests.{eqb-false, leb-true, leb-false}
use Rattle.paper.specs.Lists.{In}
use Rattle.paper.specs.Sets.{Set, none, put}
use Rattle.paper.specs.Diagrams.{Diagram, leaf, node, Ordered}
use Rattle.paper.specs.Cuts.{sets_of}
use Rattle.algebra.proofs.Base.{eqb_or, put_same, put_other}
use Rattle.algebra.proofs.Lists.{in_append, map_in, in_left, in_right, in_map}
use Rattle.algebra.proofs.Without.{sets_above}
use Rattle.paper.specs.Reports.{size, product}
use Rattle.algebra.specs.Reports.{over, Way, fewest, better, with, likeliest}

-- ---- of the empty set, and of a set with one event more

pub size_none : (k m : ℕ) → size k m none ≡ 0
size_none zero m = refl
size_none (suc k) m = omega (arith, size_none k (suc m))

pub product_none : (a : ℕ → ℕ) (k m : ℕ) → product a k m none ≡ 1
product_none a zero m = refl
product_none a (suc k) m = omega (arith, product_none a k (suc m))

size_below : (k m e : ℕ) (b : Bool) (T : Set) → e < m → size k m (put e b T) ≡ size k m T
size_below zero m e b T l = refl
size_below (suc k) m e b T l = ap₂ (λ t r. cond t 1 0 + r) (put_other e b T m (λ q. omega arith)) (size_below k (suc m) e b T (omega arith))

product_below : (a : ℕ → ℕ) (k m e : ℕ) (b : Bool) (T : Set) → e < m → product a k m (put e b T) ≡ product a k m T
product_below a zero m e b T l = refl
product_below a (suc k) m e b T l = ap₂ (λ t r. cond t (a m) 1 * r) (put_other e b T m (λ q. omega arith)) (product_below a k (suc m) e b T (omega arith))

pub size_put : (k m e : ℕ) (T : Set) → m ≤ e → e < m + k → T e ≡ false → size k m (put e true T) ≡ suc (size k m T)
size_put zero m e T l h q = absurd (omega arith)
size_put (suc k) m e T l h q = go (eqb_or m e) (size_put k (suc m) e T)
  where
    go : (m ≡ e) ⊎ (eqb m e ≡ false) → (suc m ≤ e → e < suc m + k → T e ≡ false → size k (suc m) (put e true T) ≡ suc (size k (suc m) T))
        → size (suc k) m (put e true T) ≡ suc (size (suc k) m T)
    go (inl w) r =
        let x : put e true T m ≡ true = ap (put e true T) w ∙ put_same e true T in
        let y : T m ≡ false = ap T w ∙ q in
        omega (arith, ap {B = ℕ} (λ b. cond b 1 0) x, ap {B = ℕ} (λ b. cond b 1 0) y, size_below k (suc m) e true T (omega arith))
    go (inr w) r =
        let x : put e true T m ≡ T m = put_other e true T m (eqb-false m e w) in
        omega (arith, ap {B = ℕ} (λ b. cond b 1 0) x, r (omega (arith, eqb-false m e w)) (omega arith) q)

pub product_put : (a : ℕ → ℕ) (k m e : ℕ) (T : Set) → m ≤ e → e < m + k → T e ≡ false → product a k m (put e true T) ≡ a e * product a k m T
product_put a zero m e T l h q = absurd (omega arith)
product_put a (suc k) m e T l h q = go (eqb_or m e) (product_put a k (suc m) e T)
  where
    go : (m ≡ e) ⊎ (eqb m e ≡ false) → (suc m ≤ e → e < suc m + k → T e ≡ false → product a k (suc m) (put e true T) ≡ a e * product a k (suc m) T)
        → product a (suc k) m (put e true T) ≡ a e * product a (suc k) m T
    go (inl w) r =
        let x : put e true T m ≡ true = ap (put e true T) w ∙ put_same e true T in
        let y : T m ≡ false = ap T w ∙ q in
        ap₂ (λ t p. cond t (a m) 1 * p) x (product_below a k (suc m) e true T (omega arith))
        ∙ ap (λ j. a j * product a k (suc m) T) w
        ∙ sym (ap (λ t. a e * (cond t (a m) 1 * product a k (suc m) T)) y ∙ omega arith)
    go (inr w) r =
        let x : put e true T m ≡ T m = put_other e true T m (eqb-false m e w) in
        ap₂ (λ t p. cond t (a m) 1 * p) x (r (omega (arith, eqb-false m e w)) (omega arith) q) ∙ omega arith

-- ---- of two sets that share no event

pub size_over : (P T : Set) → ((i : ℕ) → P i ≡ true → T i ≡ false) → (k m : ℕ) → size k m (over P T) ≡ size k m P + size k m T
size_over P T h zero m = refl
size_over P T h (suc k) m = go (P m) (T m) (h m) (size_over P T h k (suc m))
  where
    go : (p t : Bool) → (p ≡ true → t ≡ false) → size k (suc m) (over P T) ≡ size k (suc m) P + size k (suc m) T
        → cond (p || t) 1 0 + size k (suc m) (over P T) ≡ cond p 1 0 + size k (suc m) P + (cond t 1 0 + size k (suc m) T)
    go true true q r = absurd (true≢false (q refl))
    go true false q r = omega arith
    go false true q r = omega arith
    go false false q r = omega arith

pub product_over : (a : ℕ → ℕ) (P T : Set) → ((i : ℕ) → P i ≡ true → T i ≡ false) → (k m : ℕ) → product a k m (over P T) ≡ product a k m P * product a k m T
product_over a P T h zero m = refl
product_over a P T h (suc k) m = go (P m) (T m) (h m) (product_over a P T h k (suc m))
  where
    go : (p t : Bool) → (p ≡ true → t ≡ false) → product a k (suc m) (over P T) ≡ product a k (suc m) P * product a k (suc m) T
        → cond (p || t) (a m) 1 * product a k (suc m) (over P T) ≡ cond p (a m) 1 * product a k (suc m) P * (cond t (a m) 1 * product a k (suc m) T)
    go true true q r = absurd (true≢false (q refl))
    go true false q r = rw r (omega arith)
    go false true q r = rw r (omega arith)
    go false false q r = rw r (omega arith)

-- ---- numbers

pub pow_pos : (D : ℕ) → 0 < D → (k : ℕ) → 0 < D ^ k
pow_pos D D0 zero = rw (pow-zero D) (omega arith)
pow_pos D D0 (suc k) = rw (pow-suc D k) (mul-pos (pow_pos D D0 k) D0)

-- ---- what a node says of the sets below it

module _ (D : ℕ) (a : ℕ → ℕ) (n : ℕ) (D0 : 0 < D) where
  -- a set below a node: with the event, or from the sound branch
  sets_cases : {C : Type 0} (m e : ℕ) (f s : Diagram) (S : Set) → Ordered m n (node e f s) → In S (sets_of (node e f s))
      → ((T : Set) → In T (sets_of f) → T e ≡ false → S ≡ put e true T → C) → (In S (sets_of s) → C) → C
  sets_cases {C} m e f s S o h x y = go (in_append S (map (put e true) (sets_of f)) (sets_of s) h)
    where
      go : In S (map (put e true) (sets_of f)) ⊎ In S (sets_of s) → C
      go (inl k) = let (T, j, q) = map_in (put e true) S (sets_of f) k in x T j (sets_above (suc e) n f T o.2 j e (omega arith)) q
      go (inr k) = y k

  -- FEWEST: no set below has fewer members
  pub fewest_law : (m : ℕ) (z : Diagram) → Ordered m n z → (S : Set) → In S (sets_of z) → fewest z ≤ size n 0 S
  unfolding fewest
  fewest_law m (leaf true) o S h = omega arith
  fewest_law m (leaf false) o S h = absurd h
  fewest_law m (node e f s) o S h = sets_cases m e f s S o h
      (λ T i q w. let r = fewest_law (suc e) f o.2 T i in
      let u : size n 0 S ≡ suc (size n 0 T) = ap (size n 0) w ∙ size_put n 0 e T (omega arith) (omega (arith, o.1)) q in
      omega (arith, min-le_left (suc (fewest f)) (fewest s)))
      (λ i. let r = fewest_law (suc e) s o.3 S i in omega (arith, min-le_right (suc (fewest f)) (fewest s)))

  with_in : (e : ℕ) (f s : Diagram) (T : Set) → In T (sets_of f) → In (put e true T) (sets_of (node e f s))
  with_in e f s T i = in_left (put e true T) (map (put e true) (sets_of f)) (sets_of s) (in_map (put e true) T (sets_of f) i)

  without_in : (e : ℕ) (f s : Diagram) (T : Set) → In T (sets_of s) → In T (sets_of (node e f s))
  without_in e f s T i = in_right T (map (put e true) (sets_of f)) (sets_of s) i

  -- and if it is at most two, one has as few
  pub fewest_reached : (m : ℕ) (z : Diagram) → Ordered m n z → fewest z ≤ 2 → (S : Set) × In S (sets_of z) × (size n 0 S ≡ fewest z)
  unfolding fewest
  fewest_reached m (leaf true) o h = (none, inl refl, size_none n 0)
  fewest_reached m (leaf false) o h = absurd (omega arith)
  fewest_reached m (node e f s) o h = go (leb x y) refl (fewest_reached (suc e) f o.2) (fewest_reached (suc e) s o.3)
    where
      x : ℕ
      x = suc (fewest f)

      y : ℕ
      y = fewest s

      go : (b : Bool) → leb x y ≡ b → (fewest f ≤ 2 → (S : Set) × In S (sets_of f) × (size n 0 S ≡ fewest f)) → (fewest s ≤ 2 → (S : Set) × In S (sets_of s) × (size n 0 S ≡ fewest s))
          → (S : Set) × In S (sets_of (node e f s)) × (size n 0 S ≡ fewest (node e f s))
      go true q rf rs =
          let e₁ : min x y ≡ x = min-eq_left (leb-true x y q) in
          let (T, i, w) = rf (omega arith) in
          let te : T e ≡ false = sets_above (suc e) n f T o.2 i e (omega arith) in
          (put e true T, with_in e f s T i, size_put n 0 e T (omega arith) (omega (arith, o.1)) te ∙ omega arith)
      go false q rf rs =
          let l : y ≤ x = omega (arith, leb-false x y q) in
          let e₁ : min x y ≡ y = min-eq_right l in
          let (T, i, w) = rs (omega arith) in
          (T, without_in e f s T i, w ∙ sym e₁)

  -- ---- the likeliest set, exactly

  -- x is no less likely than y
  abbrev pub NoLess : Way → Way → Type 0
  NoLess x y = y.chance * D ^ x.members ≤ x.chance * D ^ y.members

  abbrev pub way_of : Set → Way
  way_of S = record { members = size n 0 S; chance = product a n 0 S }

  -- p / x ≥ q / y ≥ r / z, on plain numbers
  ratio : (p q r x y z : ℕ) → 0 < y → q * x ≤ p * y → r * y ≤ q * z → r * x ≤ p * z
  ratio p q r x y z y0 h k = le_of_mul-le-mul_right {k = y} (omega (arith, mul-le-mul_right z h, mul-le-mul_right x k)) y0

  no_less_trans : (x y z : Way) → NoLess x y → NoLess y z → NoLess x z
  no_less_trans x y z h k = ratio x.chance y.chance z.chance (D ^ x.members) (D ^ y.members) (D ^ z.members) (pow_pos D D0 y.members) h k

  better_left : (x y : Way) → NoLess (better D a x y) x
  better_left x y = go (leb (y.chance * D ^ x.members) (x.chance * D ^ y.members)) refl
    where
      go : (b : Bool) → leb (y.chance * D ^ x.members) (x.chance * D ^ y.members) ≡ b → NoLess (cond b x y) x
      go true q = omega arith
      go false q = omega (arith, leb-false (y.chance * D ^ x.members) (x.chance * D ^ y.members) q)

  better_right : (x y : Way) → NoLess (better D a x y) y
  better_right x y = go (leb (y.chance * D ^ x.members) (x.chance * D ^ y.members)) refl
    where
      go : (b : Bool) → leb (y.chance * D ^ x.members) (x.chance * D ^ y.members) ≡ b → NoLess (cond b x y) y
      go true q = leb-true (y.chance * D ^ x.members) (x.chance * D ^ y.members) q
      go false q = omega arith

  -- with one event more on both
  add_event : (p q x y c : ℕ) → q * x ≤ p * y → c * q * (x * D) ≤ c * p * (y * D)
  add_event p q x y c h = omega (arith, mul-le-mul_left (c * D) h)

  -- LIKELIEST: no set below is likelier
  pub likeliest_law : (m : ℕ) (z : Diagram) → Ordered m n z → (S : Set) → In S (sets_of z) → NoLess (likeliest D a z) (way_of S)
  unfolding likeliest
  likeliest_law m (leaf true) o S (inl e) = rw (e, product_none a n 0, size_none n 0) (omega arith)
  likeliest_law m (leaf true) o S (inr h) = absurd h
  likeliest_law m (leaf false) o S h = absurd h
  likeliest_law m (node e f s) o S h = sets_cases m e f s S o h
      (λ T i q w. no_less_trans (better D a x (likeliest D a s)) x (way_of S) (better_left x (likeliest D a s))
      (rw (w, product_put a n 0 e T (omega arith) (omega (arith, o.1)) q, size_put n 0 e T (omega arith) (omega (arith, o.1)) q, pow-suc D (size n 0 T), pow-suc D (likeliest D a f).members)
      (add_event (likeliest D a f).chance (product a n 0 T) (D ^ (likeliest D a f).members) (D ^ size n 0 T) (a e) (likeliest_law (suc e) f o.2 T i))))
      (λ i. no_less_trans (better D a x (likeliest D a s)) (likeliest D a s) (way_of S) (better_right x (likeliest D a s)) (likeliest_law (suc e) s o.3 S i))
    where
      x : Way
      x = with D a e (likeliest D a f)

  pos_right : (x y : ℕ) → 0 < x * y → 0 < y
  pos_right x zero h = absurd (omega arith)
  pos_right x (suc y) h = omega arith

  -- and one is as likely, where any is possible at all
  pub likeliest_reached : (m : ℕ) (z : Diagram) → Ordered m n z → 0 < (likeliest D a z).chance → (S : Set) × In S (sets_of z) × (way_of S ≡ likeliest D a z)
  unfolding likeliest
  likeliest_reached m (leaf true) o h = (none, inl refl, ap₂ (λ c p. record { members = c; chance = p }) (size_none n 0) (product_none a n 0))
  likeliest_reached m (leaf false) o h = absurd (omega arith)
  likeliest_reached m (node e f s) o h = go (leb (y.chance * D ^ x.members) (x.chance * D ^ y.members)) h (likeliest_reached (suc e) f o.2) (likeliest_reached (suc e) s o.3)
    where
      x : Way
      x = with D a e (likeliest D a f)

      y : Way
      y = likeliest D a s

      Found : Diagram → Way → Type 0
      Found z w = (S : Set) × In S (sets_of z) × (way_of S ≡ w)

      go : (b : Bool) → 0 < (cond b x y).chance → (0 < (likeliest D a f).chance → Found f (likeliest D a f)) → (0 < (likeliest D a s).chance → Found s (likeliest D a s)) → Found (node e f s) (cond b x y)
      go true p rf rs =
          let (T, i, w) = rf (pos_right (a e) (likeliest D a f).chance p) in
          let te : T e ≡ false = sets_above (suc e) n f T o.2 i e (omega arith) in (
            put e true T,
            with_in e f s T i,
            ap₂ (λ c p. record { members = c; chance = p }) (size_put n 0 e T (omega arith) (omega (arith, o.1)) te ∙ ap (λ v. suc v.members) w)
                (product_put a n 0 e T (omega arith) (omega (arith, o.1)) te ∙ ap (λ v. a e * v.chance) w),
          )
      go false p rf rs = let (T, i, w) = rs p in (T, without_in e f s T i, w)

-- ---- of the leaves and of a node

pub fewest_0 : fewest (leaf false) ≡ 3
unfolding fewest
fewest_0 = refl

pub fewest_1 : fewest (leaf true) ≡ 0
unfolding fewest
fewest_1 = refl

pub fewest_node : (e : ℕ) (f s : Diagram) → fewest (node e f s) ≡ min (suc (fewest f)) (fewest s)
unfolding fewest
fewest_node e f s = refl

pub fewest_small : (z : Diagram) → fewest z ≤ 3
unfolding fewest
fewest_small (leaf true) = omega arith
fewest_small (leaf false) = omega arith
fewest_small (node e f s) = omega (arith, fewest_small s, min-le_right (suc (fewest f)) (fewest s))

module _ (D : ℕ) (a : ℕ → ℕ) where
  pub likeliest_0 : likeliest D a (leaf false) ≡ record { members = 0; chance = 0 }
  unfolding likeliest
  likeliest_0 = refl

  pub likeliest_1 : likeliest D a (leaf true) ≡ record { members = 0; chance = 1 }
  unfolding likeliest
  likeliest_1 = refl

  pub likeliest_node : (e : ℕ) (f s : Diagram) → likeliest D a (node e f s) ≡ better D a (with D a e (likeliest D a f)) (likeliest D a s)
  unfolding likeliest
  likeliest_node e f s = refl
